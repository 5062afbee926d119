-- The contents of a folder and of a sink, and how calls change them (source: own).
use Rattle.std.specs.Prelude.{◌≡◌, ◌≢◌, ◌↔◌, ℕ, ◌≤◌, ◌<◌, ⊤, Option, Some, None, List, ◌++◌, length, take, drop}

-- the bytes that each name holds; None for a name without a file
abbrev pub Contents : Type 0
Contents = List ℕ → Option (List ℕ)

-- the first k bytes of buf are those of the file from at on, and there are none only at its end
abbrev pub GivesPart : Option (List ℕ) → ℕ → ℕ → List ℕ → Type 0
GivesPart None at k buf = ⊥
GivesPart (Some bytes) at k buf =
    (k ≤ length (drop at bytes)) × (take k buf ≡ take k (drop at bytes)) × (0 < length buf → (k ≡ 0) ↔ (length bytes ≤ at))

-- the contents are as before, except that this name now holds these bytes
abbrev pub Holds : Option Contents → Option Contents → List ℕ → List ℕ → Type 0
Holds None None name bytes = ⊤
Holds None (Some new) name bytes = ⊥
Holds (Some old) None name bytes = ⊥
Holds (Some old) (Some new) name bytes = (new name ≡ Some bytes) × ((other : List ℕ) → other ≢ name → new other ≡ old other)

-- the contents are as before, except for this name
abbrev pub LeavesOpen : Option Contents → Option Contents → List ℕ → Type 0
LeavesOpen None None name = ⊤
LeavesOpen None (Some new) name = ⊥
LeavesOpen (Some old) None name = ⊥
LeavesOpen (Some old) (Some new) name = (other : List ℕ) → other ≢ name → new other ≡ old other

-- the piece was appended
abbrev pub Gains : Option (List ℕ) → Option (List ℕ) → List ℕ → Type 0
Gains None None piece = ⊤
Gains None (Some new) piece = ⊥
Gains (Some old) None piece = ⊥
Gains (Some old) (Some new) piece = new ≡ old ++ piece

-- a prefix of the piece was appended
abbrev pub GainsPrefix : Option (List ℕ) → Option (List ℕ) → List ℕ → Type 0
GainsPrefix None None piece = ⊤
GainsPrefix None (Some new) piece = ⊥
GainsPrefix (Some old) None piece = ⊥
GainsPrefix (Some old) (Some new) piece = (k : ℕ) × (new ≡ old ++ take k piece)
