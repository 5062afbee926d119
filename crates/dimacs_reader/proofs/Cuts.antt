-- The lines of a file, one after another.
use Rattle.std.proofs.Common.{◌≡◌, ℕ, Bool, true, false, ◌==◌, cond, List, [], ◌∷◌, length}
use Rattle.std.proofs.Common.{refl, ap, sym, ◌∙◌}
use Rattle.std.proofs.lemmas.Bool.{cond-false}
use Rattle.std.specs.List.{slice_split, onto_first}
use Rattle.std.specs.Str.Lines.{strip_carriage_return, lines_of_parts}
use Rattle.dimacs_reader.specs.Lines.{lines_of}

abbrev is_feed : ℕ → Bool
is_feed b = b == 10

-- the first part, and at least one more
record IsParted (parts : List (List ℕ)) : Type 0 where
  first : List ℕ
  more : List (List ℕ)
  are : parts ≡ first ∷ more

onto_parted : (x : ℕ) (parts : List (List ℕ)) → IsParted (onto_first x parts)
onto_parted x [] = record { first = x ∷ []; more = []; are = refl }
onto_parted x (part ∷ parts) = record { first = x ∷ part; more = parts; are = refl }

cond_parted : (t : Bool) (xs ys : List (List ℕ)) → IsParted xs → IsParted ys → IsParted (cond t xs ys)
cond_parted true xs ys h k = h
cond_parted false xs ys h k = k

parted : (xs : List ℕ) → IsParted (slice_split is_feed xs)
parted [] = record { first = []; more = []; are = refl }
parted (x ∷ xs) =
    cond_parted (is_feed x) ([] ∷ slice_split is_feed xs) (onto_first x (slice_split is_feed xs))
    (record { first = []; more = slice_split is_feed xs; are = refl })
    (onto_parted x (slice_split is_feed xs))

-- a line that ends with a line feed
pub line_cut : (bytes front rest : List ℕ) → slice_split is_feed bytes ≡ front ∷ slice_split is_feed rest
    → lines_of bytes ≡ strip_carriage_return front ∷ lines_of rest
line_cut bytes front rest parts =
    let p = parted rest in
    ap lines_of_parts parts
    ∙ ap (λ ps. lines_of_parts (front ∷ ps)) p.are
    ∙ ap (λ ps. strip_carriage_return front ∷ lines_of_parts ps) (sym p.are)

-- a last line without a line feed
pub last_line : (bytes : List ℕ) → slice_split is_feed bytes ≡ bytes ∷ [] → (length bytes == 0) ≡ false → lines_of bytes ≡ bytes ∷ []
last_line bytes parts some = ap lines_of_parts parts ∙ cond-false (length bytes == 0) [] (bytes ∷ []) some
