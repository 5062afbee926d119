-- Reading a whole file: the answer, where the folder tells its contents (source: own).
use Rattle.std.specs.Prelude.{◌≡◌, ℕ, ◌≤◌, ◌<◌, ⊤, Option, Some, None, List, length, Result, Ok, Err, Vec, IsSomeAnd}
use Rattle.std.specs.declared.alloc.Global.{Global}
use Rattle.route_base.specs.declared.whole_file.ReadAllFault.{ReadAllFault}
use Rattle.route_base.specs.declared.whole_file.ReadAllFault.TheVariants.{Missing, TooLong, Failed, OutOfMemory}

-- the answer is the whole file, or that there is none, or that it is longer than the limit
abbrev pub IsWhole : Option (List ℕ) → ℕ → Result (Vec ℕ Global) ReadAllFault → Type 0
IsWhole held limit (Ok v) = (held ≡ Some v.items) × (length v.items ≤ limit)
IsWhole held limit (Err Missing) = held ≡ None
IsWhole held limit (Err TooLong) = IsSomeAnd held (λ bytes. limit < length bytes)
IsWhole held limit (Err Failed) = ⊤
IsWhole held limit (Err OutOfMemory) = ⊤
