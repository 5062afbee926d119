-- Bytes cut into lines, and lines cut into tokens.
use Rattle.std.proofs.Common.{◌≡◌, ◌==◌, ℕ, ◌<◌, Option, Some, None, List, [], ◌∷◌, length, map, refl, ◌∙◌, ap, subst, Bool, arith}
use Rattle.std.specs.Prelude.{option_map, unwrap_or}
use Rattle.std.specs.List.{slice_split}
use Rattle.std.proofs.lemmas.List.{length-map}
use Rattle.std.proofs.lemmas.List.Splits.{length-slice_split}
use Rattle.certificate.specs.CertificateText.{Tokens}
use Rattle.certificate.specs.Inside.LineForms.{spaced_tokens}
use Rattle.certificate.specs.Inside.Reading.{token_lines, first_line}

-- there is always a first part
pub some_part : {X : Type 0} (p : X → Bool) (xs : List X) → 0 < length (slice_split p xs)
some_part p xs = omega (arith, length-slice_split p xs)

some_line : (line : Tokens) (lines : List Tokens) → 0 < length (line ∷ lines)
some_line line lines = omega arith

module _ {A : Type 0} (read : Tokens → Option A) where
  pub read_first : (line : Tokens) (lines : List Tokens) (x : A) → 0 < length lines → read line ≡ Some x → first_line read (line ∷ lines) ≡ Some (x, lines)
  read_first line [] x some is = absurd (omega (arith, some))
  read_first line (next ∷ lines) x some is = ap (λ o. option_map (λ y. (y, next ∷ lines)) o) is

  -- a line that was read
  pub first_read : (bytes line rest : List ℕ) (x : A) → slice_split (λ b. b == 10) bytes ≡ line ∷ slice_split (λ b. b == 10) rest
      → read (spaced_tokens line) ≡ Some x
      → first_line read (token_lines bytes) ≡ Some (x, token_lines rest)
  first_read bytes line rest x parts is =
      ap (λ ls. first_line read (map spaced_tokens ls)) parts
      ∙ read_first (spaced_tokens line) (token_lines rest) x (omega (
        arith,
        some_part (λ b. b == 10) rest,
        length-map
            (slice_split (λ b. b == 10) rest) spaced_tokens,
      )) is

  -- fewer lines are left
  pub first_shorter : (lines : List Tokens) (x : A) (others : List Tokens) → first_line read lines ≡ Some (x, others) → length others < length lines
  first_shorter [] x others is = absurd (cc)
  first_shorter (line ∷ []) x others is = absurd (cc)
  first_shorter (line ∷ next ∷ lines) x others is = shorter (read line) is
    where
      shorter : (o : Option A) → option_map {U = A × List Tokens} (λ y. (y, next ∷ lines)) o ≡ Some (x, others) → length others < length (line ∷ next ∷ lines)
      shorter None e = absurd (cc)
      shorter (Some y) e =
          let same : (y, next ∷ lines) ≡ (x, others) = ap (λ w. unwrap_or w (y, next ∷ lines)) e in
          omega (arith, ap (λ (r : A × List Tokens). length r.1) same)

  pub record IsFirstLine (lines : List Tokens) (x : A) (others : List Tokens) : Type 0 where
    pub line : Tokens
    pub lines_are : lines ≡ line ∷ others
    pub is_read : read line ≡ Some x
    pub some : 0 < length others

  -- the first line, where it was read
  pub first_found : (lines : List Tokens) (x : A) (others : List Tokens) → first_line read lines ≡ Some (x, others) → IsFirstLine lines x others
  first_found [] x others is = absurd (cc)
  first_found (line ∷ []) x others is = absurd (cc)
  first_found (line ∷ next ∷ lines) x others is = found (read line) refl is
    where
      found : (o : Option A) → read line ≡ o → option_map {U = A × List Tokens} (λ y. (y, next ∷ lines)) o ≡ Some (x, others)
          → IsFirstLine (line ∷ next ∷ lines) x others
      found None was e = absurd (cc)
      found (Some y) was e =
          let same : (y, next ∷ lines) ≡ (x, others) = ap (λ w. unwrap_or w (y, next ∷ lines)) e in
          let rest : next ∷ lines ≡ others = ap (λ (r : A × List Tokens). r.1) same in
          record {
            line = line;
            lines_are = ap (λ ls. line ∷ ls) rest;
            is_read = was ∙ ap (λ (r : A × List Tokens). Some r.0) same;
            some = subst (λ (ls : List Tokens). 0 < length ls) rest (some_line next lines);
          }
