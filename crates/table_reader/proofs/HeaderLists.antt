-- Headers of a table, as a search for a file's header goes through them.
use Rattle.std.proofs.Common.{◌≡◌, ℕ, Bor, zero, suc, ◌<◌, true, false, ◌||◌, List, [], ◌∷◌, length, drop, get_or, refl, inl, inr}
use Rattle.std.proofs.Common.{◌∙◌, ap, arith}
use Rattle.std.specs.Str.{bytes_eq}
use Rattle.std.proofs.lemmas.Slice.Eq.{bytes_eq-Decides}
use Rattle.std.proofs.lemmas.Bool.{and_parts}
use Rattle.table_reader.specs.Records.{Record, record_eq, words_of, headers_of}
use Rattle.table_reader.specs.Schema.{IsHeader, is_header}

pub same_record : (a b : Record) → record_eq a b ≡ true → a ≡ b
same_record [] [] e = refl
same_record [] (y ∷ b) e = cc
same_record (x ∷ a) [] e = cc
same_record (x ∷ a) (y ∷ b) e =
    let p = and_parts (bytes_eq x y) (record_eq a b) e in
    ap (λ (z : List ℕ). z ∷ a) ((bytes_eq-Decides x y).0 p.0) ∙ ap (λ (more : Record). y ∷ more) (same_record a b p.1)

-- the headers from the next one on
pub header-next : (headers : List (Bor (List (Bor (List ℕ))))) (first : Record) (i : ℕ) (d : Bor (List (Bor (List ℕ)))) → i < length headers
    → is_header (headers_of (drop i headers)) first ≡
    (record_eq first (words_of (get_or headers i d).now) || is_header (headers_of (drop (suc i) headers)) first)
header-next [] first i d h = absurd (omega (arith, h))
header-next (x ∷ headers) first zero d h = refl
header-next (x ∷ headers) first (suc i) d h = header-next headers first i d (omega (arith, h))

pub header-there : (headers : List (Bor (List (Bor (List ℕ))))) (i : ℕ) (d : Bor (List (Bor (List ℕ)))) → i < length headers
    → IsHeader (headers_of headers) (words_of (get_or headers i d).now)
header-there [] i d h = absurd (omega (arith, h))
header-there (x ∷ []) zero d h = refl
header-there (x ∷ []) (suc i) d h = absurd (omega (arith, h))
header-there (x ∷ y ∷ more) zero d h = inl refl
header-there (x ∷ y ∷ more) (suc i) d h = inr (header-there (y ∷ more) i d (omega (arith, h)))

pub none_left : (headers : List (Bor (List (Bor (List ℕ))))) (first : Record) (i : ℕ) → (i < length headers → ⊥)
    → is_header (headers_of (drop i headers)) first ≡ false
none_left [] first zero h = refl
none_left [] first (suc i) h = refl
none_left (x ∷ headers) first zero h = absurd (h (omega arith))
none_left (x ∷ headers) first (suc i) h = none_left headers first i (λ less. h (omega (arith, less)))
