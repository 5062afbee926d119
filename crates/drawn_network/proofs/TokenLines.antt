-- Lines of tokens, with one blank between two of them and a line feed at the end: how a text is cut into them.
use Rattle.std.proofs.Common.{◌≡◌, ◌≢◌, ℕ, ◌-◌, ◌<◌, ◌≤◌, ◌==◌, true, false, List, [], ◌∷◌, ◌++◌, length, get_or, take}
use Rattle.std.proofs.Common.{refl, sym, ap, ◌∙◌, arith, append_assoc, length-append}
use Rattle.std.specs.Prelude.{All}
use Rattle.std.specs.List.{AllByRecursion, filter}
use Rattle.std.specs.Str.Lines.{strip_carriage_return}
use Rattle.std.proofs.lemmas.Bool.{cond-true, cond-false, ne_eqb}
use Rattle.std.proofs.lemmas.List.Elements.{All-cons, All-append, All-weaker}
use Rattle.std.proofs.lemmas.List.Splits.{slice_split_at, slice_split_none}
use Rattle.route_base.specs.Forms.{is_blank}
use Rattle.dimacs_reader.specs.Lines.{has_bytes, line_of, line_of_tokens, lines_of, tokens_of}
use Rattle.dimacs_reader.proofs.Cuts.{line_cut}

-- a token has a byte, and no blank or control character
pub record IsVisible (token : List ℕ) : Type 0 where
  pub some : has_bytes token ≡ true
  pub bytes : All (λ b. 33 ≤ b) token

-- a line, by its first token and the others
abbrev pub line_with : List ℕ → List (List ℕ) → List ℕ
line_with token [] = token
line_with token (next ∷ more) = token ++ 32 ∷ line_with next more

-- a line, its line feed, and the text behind it
abbrev pub line_before : List ℕ → List (List ℕ) → List ℕ → List ℕ
line_before token [] rest = token ++ 10 ∷ rest
line_before token (next ∷ more) rest = token ++ 32 ∷ line_before next more rest

pub line_then : (token : List ℕ) (more : List (List ℕ)) (rest : List ℕ) → line_before token more [] ++ rest ≡ line_before token more rest
line_then token [] rest = append_assoc token (10 ∷ []) rest
line_then token (next ∷ more) rest =
    append_assoc token (32 ∷ line_before next more []) rest ∙ ap (λ (bs : List ℕ). token ++ 32 ∷ bs) (line_then next more rest)

line_ends : (token : List ℕ) (more : List (List ℕ)) (rest : List ℕ) → line_before token more rest ≡ line_with token more ++ 10 ∷ rest
line_ends token [] rest = refl
line_ends token (next ∷ more) rest =
    ap (λ (bs : List ℕ). token ++ 32 ∷ bs) (line_ends next more rest) ∙ sym (append_assoc token (32 ∷ line_with next more) (10 ∷ rest))

-- the text behind a line is shorter
pub line_shortens : (token : List ℕ) (more : List (List ℕ)) (rest : List ℕ) → length rest < length (line_before token more rest)
line_shortens token more rest =
    let whole = ap length (line_ends token more rest) in
    omega (arith, whole, length-append (line_with token more) (10 ∷ rest))

not_blank : (b : ℕ) → 33 ≤ b → is_blank b ≡ false
not_blank b h = rw (ne_eqb b 32 (λ e. omega (arith, h, e)), ne_eqb b 9 (λ e. omega (arith, h, e))) refl

no_blanks : (token : List ℕ) → All (λ b. 33 ≤ b) token → All (λ b. is_blank b ≡ false) token
no_blanks token all = All-weaker (λ b. 33 ≤ b) (λ b. is_blank b ≡ false) not_blank token all

-- one token behind another
token_next : (token rest : List ℕ) → IsVisible token → tokens_of (token ++ 32 ∷ rest) ≡ token ∷ tokens_of rest
unfolding tokens_of
token_next token rest h =
    ap (filter has_bytes) (slice_split_at is_blank token 32 rest (no_blanks token h.bytes) refl)
    ∙ cond-true (has_bytes token) (token ∷ tokens_of rest) (tokens_of rest) h.some

token_last : (token : List ℕ) → IsVisible token → tokens_of token ≡ token ∷ []
unfolding tokens_of
token_last token h =
    ap (filter has_bytes) (slice_split_none is_blank token (no_blanks token h.bytes)) ∙ cond-true (has_bytes token) (token ∷ []) [] h.some

line_tokens : (token : List ℕ) (more : List (List ℕ)) → AllByRecursion IsVisible (token ∷ more) → tokens_of (line_with token more) ≡ token ∷ more
line_tokens token [] h = token_last token h.0
line_tokens token (next ∷ more) h =
    token_next token (line_with next more) h.0 ∙ ap (λ ts. token ∷ ts) (line_tokens next more h.1)

-- the meaning of a line is that of its tokens
pub line_means : (token : List ℕ) (more : List (List ℕ)) → AllByRecursion IsVisible (token ∷ more)
    → line_of (line_with token more) ≡ line_of_tokens (token ∷ more)
unfolding line_of
line_means token more h = ap line_of_tokens (line_tokens token more h)

from_blank : (b : ℕ) → 33 ≤ b → 32 ≤ b
from_blank b h = omega (arith, h)

line_bytes : (token : List ℕ) (more : List (List ℕ)) → AllByRecursion IsVisible (token ∷ more) → All (λ b. 32 ≤ b) (line_with token more)
line_bytes token [] h = All-weaker (λ b. 33 ≤ b) (λ b. 32 ≤ b) from_blank token (h.0).bytes
line_bytes token (next ∷ more) h =
    All-append (λ b. 32 ≤ b) token (32 ∷ line_with next more) (All-weaker (λ b. 33 ≤ b) (λ b. 32 ≤ b) from_blank token (h.0).bytes)
    (All-cons (λ b. 32 ≤ b) 32 (line_with next more) (omega arith) (line_bytes next more h.1))

-- a line of such bytes ends in no carriage return
no_return : (line : List ℕ) → All (λ b. 32 ≤ b) line → get_or line (length line - 1) 0 ≢ 13
no_return [] all e = omega (arith, e)
no_return (b ∷ bs) all e =
    let last : 32 ≤ get_or (b ∷ bs) (length (b ∷ bs) - 1) 0 = all (length (b ∷ bs) - 1) 0 (omega arith) in
    omega (arith, last, e)

kept_whole : (line : List ℕ) → All (λ b. 32 ≤ b) line → strip_carriage_return line ≡ line
kept_whole line all =
    cond-false (get_or line (length line - 1) 0 == 13) (take (length line - 1) line) line (ne_eqb _ 13 (no_return line all))

not_feed : (b : ℕ) → 32 ≤ b → (b == 10) ≡ false
not_feed b h = ne_eqb b 10 (λ e. omega (arith, h, e))

cut_at_feed : (line rest : List ℕ) → All (λ b. 32 ≤ b) line → lines_of (line ++ 10 ∷ rest) ≡ line ∷ lines_of rest
cut_at_feed line rest all =
    line_cut (line ++ 10 ∷ rest) line rest
    (slice_split_at (λ b. b == 10) line 10 rest (All-weaker (λ b. 32 ≤ b) (λ b. (b == 10) ≡ false) not_feed line all) refl)
    ∙ ap (λ l. l ∷ lines_of rest) (kept_whole line all)

-- a line is cut off at its line feed
pub line_cut_off : (token : List ℕ) (more : List (List ℕ)) (rest : List ℕ) → AllByRecursion IsVisible (token ∷ more)
    → lines_of (line_before token more rest) ≡ line_with token more ∷ lines_of rest
line_cut_off token more rest h = ap lines_of (line_ends token more rest) ∙ cut_at_feed (line_with token more) rest (line_bytes token more h)
