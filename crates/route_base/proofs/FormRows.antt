-- Rows of the forms, computed.
use Rattle.std.proofs.Common.{◌≡◌, ℕ, true, false, Some, None, List, [], ◌∷◌, map, refl}
use Rattle.std.specs.Prelude.{codes}
use Rattle.route_base.specs.Forms.{is_name, table_number_of, minute_of, weight_of}

-- texts, and what a form makes of each of them
abbrev Reads : {A : Type 0} → (List ℕ → A) → List (List ℕ × A) → Type 0
Reads read rows = map (λ row. read row.0) rows ≡ map (λ row. row.1) rows

-- at most a hundred, with three decimals at most
weights : Reads weight_of (
    (codes "0.5", Some 500)
    ∷ (codes "100", Some 100000)
    ∷ (codes "100.000", Some 100000)
    ∷ (codes "100.001", None)
    ∷ (codes "2.000", Some 2000)
    ∷ (codes ".5", None)
    ∷ (codes "1.", None)
    ∷ (codes "1.2.3", None)
    ∷ (codes "1000", None)
    ∷ [])
weights = refl

-- at least one byte, with no dash in front and no blank
names : Reads is_name ((codes "-a", false) ∷ (codes "a.b-c_9", true) ∷ (codes "", false) ∷ (codes "a b", false) ∷ [])
names = refl

-- leading zeros, the greatest number, and the next one
numbers : Reads table_number_of ((codes "007", Some 7) ∷ (codes "4294967295", Some 4294967295) ∷ (codes "4294967296", None) ∷ [])
numbers = refl

-- the first minute, the same with a zero in front, the last minute, and the next one
minutes : Reads minute_of (
    (codes "525600", Some 525600)
    ∷ (codes "0525600", None)
    ∷ (codes "120968639", Some 120968639)
    ∷ (codes "120968640", None)
    ∷ [])
minutes = refl
