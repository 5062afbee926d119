-- The part of a file that has been read so far.
use Rattle.std.proofs.Common.{◌≡◌, ℕ, ◌+◌, ◌≤◌, Option, Some, None, List, [], ◌++◌, length, take, drop, sym, ◌∙◌, ap, arith}
use Rattle.std.proofs.Common.{length-append, length-drop}
use Rattle.std.specs.Prelude.{IfSome}
use Rattle.std.proofs.Math.Seq.{take-add}
use Rattle.std.proofs.lemmas.List.{length-take-le}
use Rattle.route_base.specs.Contents.{Contents, GivesPart}

abbrev pub IsFrontOf : Option (List ℕ) → List ℕ → Type 0
IsFrontOf None all = all ≡ []
IsFrontOf (Some bytes) all = (length all ≤ length bytes) × (all ≡ take (length all) bytes)

abbrev pub HasRead : Option Contents → List ℕ → List ℕ → Type 0
HasRead None name all = Unit {0}
HasRead (Some held) name all = IsFrontOf (held name) all

front_goes : (file : Option (List ℕ)) (all buf : List ℕ) (k : ℕ) → IsFrontOf file all → GivesPart file (length all) k buf → IsFrontOf file
    (all ++ take k buf)
front_goes None all buf k front part = absurd part
front_goes (Some bytes) all buf k front part =
    let size : length (take k buf) ≡ k = ap length part.1 ∙ length-take-le k (drop (length all) bytes) part.0 in
    let long : length (all ++ take k buf) ≡ length all + k = length-append all (take k buf) ∙ ap (λ n. length all + n) size in (
      omega (arith, long, part.0, length-drop (length all) bytes, front.0),
      ap (λ (xs : List ℕ). xs ++ take k buf) front.1 ∙ ap (λ (xs : List ℕ). take (length all) bytes ++ xs) part.1 ∙ sym
          (take-add (length all) k bytes) ∙ ap (λ n. take n bytes) (sym long),
    )

-- one part more
pub reads_on : (told : Option Contents) (name all buf : List ℕ) (k : ℕ) → HasRead told name all → IfSome told
    (λ held. GivesPart (held name) (length all) k buf) → HasRead told name (all ++ take k buf)
reads_on None name all buf k had part = tt
reads_on (Some held) name all buf k had part = front_goes (held name) all buf k had part
