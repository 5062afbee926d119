-- The least costs with waiting, minute by minute (source: own; no law).
use Rattle.std.specs.Prelude.{ℕ, ◌+◌, zero, suc, Bool, if◌then◌else◌, Option, None}
use Rattle.std.specs.Option.{option_map}
use Rattle.function_merge.specs.Least.{least_of}

-- the least cost of a wait that ends at a minute: where waiting is allowed a minute before, the cost of one minute's wait more than the minute before
abbrev pub carried_to : (ℕ → Option ℕ) → (ℕ → Bool) → ℕ → ℕ → Option ℕ
carried_to values allowed weight zero = None
carried_to values allowed weight (suc t) =
    if allowed t then option_map (λ v. v + weight) (least_of (values t) (carried_to values allowed weight t)) else None

-- the lesser of the value and of this cost, which is the least cost with waiting (`IsLeastWait`)
abbrev pub waited_at : (ℕ → Option ℕ) → (ℕ → Bool) → ℕ → ℕ → Option ℕ
waited_at values allowed weight t = least_of (values t) (carried_to values allowed weight t)
