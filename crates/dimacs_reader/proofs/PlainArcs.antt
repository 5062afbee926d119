-- Arc lines with one space between their tokens.
use Rattle.std.proofs.Common.{◌≡◌, ℕ, zero, suc, ◌+◌, ◌-◌, ◌*◌, ◌^◌, ◌<◌, ◌≤◌, ◌==◌, Bool, true, false, Some, List, [], ◌∷◌, ◌++◌, length, All}
use Rattle.std.proofs.Common.{take, drop, get_or, refl, ap, sym, ◌∙◌, arith, append_assoc, length-append, length-drop, take-append-drop}
use Rattle.std.specs.Prelude.{nat_le}
use Rattle.std.specs.List.{slice_split, filter}
use Rattle.std.specs.Str.Lines.{strip_carriage_return}
use Rattle.std.proofs.Math.Nat.{pow-le-pow_right, pow-succ'}
use Rattle.std.proofs.Math.Seq.{take-suc}
use Rattle.std.proofs.lemmas.Bool.{cond-false}
use Rattle.std.proofs.lemmas.Bool.Decides.{nat_tests}
use Rattle.std.proofs.lemmas.List.{drop_more, drop-drop, get_or-drop, length-take-le}
use Rattle.std.proofs.lemmas.List.Elements.{All-append}
use Rattle.std.proofs.lemmas.List.Splits.{slice_split_none, slice_split_at}
use Rattle.route_base.specs.Digits.{digits_from, number_of}
use Rattle.route_base.specs.Forms.{is_blank}
use Rattle.route_base.proofs.DecimalDigits.{digit_back, digit_behind, number_from}
use Rattle.route_base.proofs.Logic.{behind_test}
use Rattle.dimacs_reader.specs.declared.lines.Line.TheVariants.{Arc}
use Rattle.dimacs_reader.specs.Inside.PlainLines.{IsFirstLine, IsNumberAt}
use Rattle.dimacs_reader.specs.Lines.{lines_in, lines_of, line_of, tokens_of, has_bytes, arc_from}
use Rattle.dimacs_reader.proofs.Cuts.{line_cut}
use Rattle.dimacs_reader.proofs.ReadSoFar.{lines_next}
use Rattle.dimacs_reader.proofs.Says.{says_four}

-- the number of fewer than 18 digits is small
pub few_digits : (i n : ℕ) → i < 18 → n < 10 ^ i → n < 10 ^ 17
few_digits i n few small =
    let ten : 0 < 10 = omega arith in
    let last : i ≤ 17 = omega arith in
    let most : 10 ^ i ≤ 10 ^ 17 = pow-le-pow_right ten last in
    omega (arith, most)

-- one digit more is small
pub digits_small : (i n d : ℕ) → n < 10 ^ i → d < 10 → 10 * n + d < 10 ^ suc i
digits_small i n d small below =
    let more : 10 ^ suc i ≡ 10 * 10 ^ i = pow-succ' 10 i in
    omega (arith, more)

-- one digit more is read
pub digits_more : (bytes : List ℕ) (from at n b : ℕ) → digits_from 0 (take (at - from) (drop from bytes)) ≡ Some n → from ≤ at → at < length bytes
    → b ≡ get_or bytes at 0 → 48 ≤ b → b ≤ 57 → digits_from 0 (take (at + 1 - from) (drop from bytes)) ≡ Some (10 * n + (b - 48))
digits_more bytes from at n b h behind within is low high =
    let i = at - from in
    let rest = drop from bytes in
    let place : from + i ≡ at = omega arith in
    let below : i < length rest = omega (arith, length-drop {A = ℕ}) in
    let here : get_or rest i 0 ≡ b = get_or-drop from bytes i 0 ∙ ap (λ k. get_or bytes k 0) place ∙ sym is in
    let digit : 48 + (b - 48) ≡ get_or rest i 0 = omega arith in
    let step : at + 1 - from ≡ suc i = omega arith in
    let front : take (at + 1 - from) rest ≡ take i rest ++ (48 + (b - 48)) ∷ [] = ap (λ k. take k rest) step ∙ take-suc rest i 0 below
    ∙ ap (λ d. take i rest ++ d ∷ []) (sym digit) in
    ap (digits_from 0) front ∙ digit_behind 0 n (b - 48) (take i rest) (omega arith) h

-- the digits up to the mark
pub number_cut : (bytes : List ℕ) (from at n mark : ℕ) → digits_from 0 (take (at - from) (drop from bytes)) ≡ Some n → from < at
    → at ≤ from + 18 → at < length bytes → get_or bytes at 0 ≡ mark → IsNumberAt mark bytes from n (at + 1)
number_cut bytes from at n mark h some few within here =
    let i = at - from in
    let rest = drop from bytes in
    let place : from + i ≡ at = omega arith in
    let count : length (take i rest) ≡ i = length-take-le i rest (omega (arith, length-drop {A = ℕ})) in
    let behind : drop i rest ≡ mark ∷ drop (at + 1) bytes = drop-drop i from bytes ∙ ap (λ k. drop k bytes) place ∙ drop_more bytes at 0 within
    ∙ ap (λ b. b ∷ drop (at + 1) bytes) here in
    record {
      later = omega arith;
      within = omega arith;
      digits = take i rest;
      parts = sym (take-append-drop i rest) ∙ ap (λ l. take i rest ++ l) behind;
      number = number_from (take i rest) n (omega arith) (omega arith) h;
    }

-- digits fail each test that is for no digits
digits_fail : (p : ℕ → Bool) → ((b : ℕ) → 48 ≤ b → b ≤ 57 → p b ≡ false) → (m n : ℕ) (ds : List ℕ) → digits_from m ds ≡ Some n
    → All (λ b. p b ≡ false) ds
digits_fail p h m n [] e = λ k d below. absurd (omega arith)
digits_fail p h m n (a ∷ ds) e =
    let first = digit_back m a n ds e in
    λ k d below. by_place k d below first.0 first.1 (digits_fail p h (10 * m + (a - 48)) n ds first.2)
  where
    by_place : (k d : ℕ) → k < length (a ∷ ds) → 48 ≤ a → a ≤ 57 → All (λ b. p b ≡ false) ds → p (get_or (a ∷ ds) k d) ≡ false
    by_place zero d below low high others = h a low high
    by_place (suc k) d below low high others = others k d (omega arith)

number_fails : (p : ℕ → Bool) → ((b : ℕ) → 48 ≤ b → b ≤ 57 → p b ≡ false) → (n : ℕ) (ds : List ℕ) → number_of ds ≡ Some n
    → All (λ b. p b ≡ false) ds
number_fails p h n [] e = absurd (cc)
number_fails p h n (a ∷ ds) e = digits_fail p h 0 n (a ∷ ds) (behind_test (nat_le (length (a ∷ ds)) 18) (digits_from 0 (a ∷ ds)) n e).1

number_has_bytes : (n : ℕ) (ds : List ℕ) → number_of ds ≡ Some n → has_bytes ds ≡ true
number_has_bytes n [] e = absurd (cc)
number_has_bytes n (a ∷ ds) e = refl

one_fails : (p : ℕ → Bool) (b : ℕ) → p b ≡ false → All (λ x. p x ≡ false) (b ∷ [])
one_fails p b e zero d below = e
one_fails p b e (suc k) d below = absurd (omega arith)

-- the text of an arc line
abbrev text_of : List ℕ → List ℕ → List ℕ → List ℕ
text_of a b c = (97 ∷ []) ++ 32 ∷ (a ++ 32 ∷ (b ++ 32 ∷ c))

text_fails : (p : ℕ → Bool) → ((b : ℕ) → 48 ≤ b → b ≤ 57 → p b ≡ false) → p 97 ≡ false → p 32 ≡ false → (u v w : ℕ) (a b c : List ℕ)
    → number_of a ≡ Some u → number_of b ≡ Some v → number_of c ≡ Some w → All (λ x. p x ≡ false) (text_of a b c)
text_fails p h letter space u v w a b c e f g =
    let gap = one_fails p 32 space in
    let P = λ (x : ℕ). p x ≡ false in
    let last = All-append P (32 ∷ []) c gap (number_fails p h w c g) in
    let later = All-append P b (32 ∷ c) (number_fails p h v b f) last in
    let more = All-append P (32 ∷ []) (b ++ 32 ∷ c) gap later in
    let digits = All-append P a (32 ∷ (b ++ 32 ∷ c)) (number_fails p h u a e) more in
    let behind = All-append P (32 ∷ []) (a ++ 32 ∷ (b ++ 32 ∷ c)) gap digits in
    All-append P (97 ∷ []) (32 ∷ (a ++ 32 ∷ (b ++ 32 ∷ c))) (one_fails p 97 letter) behind

no_feed : (b : ℕ) → 48 ≤ b → b ≤ 57 → (b == 10) ≡ false
no_feed b low high = grind (arith, nat_tests)

no_return : (b : ℕ) → 48 ≤ b → b ≤ 57 → (b == 13) ≡ false
no_return b low high = grind (arith, nat_tests)

no_blank : (b : ℕ) → 48 ≤ b → b ≤ 57 → is_blank b ≡ false
no_blank b low high = grind (arith, nat_tests)

-- a line without carriage returns
stays : (line : List ℕ) → 0 < length line → All (λ b. (b == 13) ≡ false) line → strip_carriage_return line ≡ line
stays line some none = cond-false (get_or line (length line - 1) 0 == 13) (take (length line - 1) line) line (none (length line - 1) 0 (omega arith))

text_tokens : (u v w : ℕ) (a b c : List ℕ) → number_of a ≡ Some u → number_of b ≡ Some v → number_of c ≡ Some w
    → tokens_of (text_of a b c) ≡ (97 ∷ []) ∷ a ∷ b ∷ c ∷ []
unfolding tokens_of
text_tokens u v w a b c e f g =
    let letter = slice_split_at is_blank (97 ∷ []) 32 (a ++ 32 ∷ (b ++ 32 ∷ c)) (one_fails is_blank 97 refl) refl in
    let first = slice_split_at is_blank a 32 (b ++ 32 ∷ c) (number_fails is_blank no_blank u a e) refl in
    let second = slice_split_at is_blank b 32 c (number_fails is_blank no_blank v b f) refl in
    let third = slice_split_none is_blank c (number_fails is_blank no_blank w c g) in
    ap (filter has_bytes) (letter ∙ ap (λ ts. (97 ∷ []) ∷ ts) (first ∙ ap (λ ts. a ∷ ts) (second ∙ ap (λ ts. b ∷ ts) third)))
    ∙ rw (number_has_bytes u a e, number_has_bytes v b f, number_has_bytes w c g) refl

text_says : (u v w : ℕ) (a b c : List ℕ) → number_of a ≡ Some u → number_of b ≡ Some v → number_of c ≡ Some w
    → line_of (text_of a b c) ≡ Arc u v w
text_says u v w a b c e f g =
    says_four (text_of a b c) (97 ∷ []) a b c (a ∷ b ∷ c ∷ []) (text_tokens u v w a b c e f g) refl refl
    ∙ ap (λ o. arc_from o (number_of b) (number_of c)) e
    ∙ ap (λ o. arc_from (Some u) o (number_of c)) f
    ∙ ap (λ o. arc_from (Some u) (Some v) o) g

-- the bytes of a file that begins with an arc line
joined : (a b c rest : List ℕ) → text_of a b c ++ 10 ∷ rest ≡ (97 ∷ []) ++ 32 ∷ (a ++ 32 ∷ (b ++ 32 ∷ (c ++ 10 ∷ rest)))
joined a b c rest = simp append_assoc

text_line : (u v w : ℕ) (a b c rest : List ℕ) → number_of a ≡ Some u → number_of b ≡ Some v → number_of c ≡ Some w
    → lines_in (text_of a b c ++ 10 ∷ rest) ≡ Arc u v w ∷ lines_in rest
text_line u v w a b c rest e f g =
    let text = text_of a b c in
    let bytes = text ++ 10 ∷ rest in
    let feed = λ (b : ℕ). b == 10 in
    let parts : slice_split feed bytes ≡ text ∷ slice_split feed rest = slice_split_at feed text 10 rest
    (text_fails feed no_feed refl refl u v w a b c e f g) refl in
    let strip = stays text (omega arith) (text_fails (λ b. b == 13) no_return refl refl u v w a b c e f g) in
    lines_next bytes text rest (Arc u v w) (line_cut bytes text rest parts ∙ ap (λ l. l ∷ lines_of rest) strip)
    (sym (text_says u v w a b c e f g))

-- a file that begins with `a` and a space
arc_front : (bytes : List ℕ) → 2 ≤ length bytes → get_or bytes 0 0 ≡ 97 → get_or bytes 1 0 ≡ 32 → bytes ≡ 97 ∷ 32 ∷ drop 2 bytes
arc_front [] h a b = absurd (omega arith)
arc_front (x ∷ []) h a b = absurd (omega arith)
arc_front (x ∷ y ∷ bytes) h a b = rw (a, b) refl

-- the first line is an arc
pub arc_first : (bytes : List ℕ) (second third next u v w : ℕ) → 2 ≤ length bytes → get_or bytes 0 0 ≡ 97 → get_or bytes 1 0 ≡ 32
    → IsNumberAt 32 bytes 2 u second → IsNumberAt 32 bytes second v third → IsNumberAt 10 bytes third w next
    → IsFirstLine bytes (Arc u v w) (drop next bytes)
arc_first bytes second third next u v w some letter space h k l =
    let rest = drop next bytes in
    let whole : bytes ≡ text_of h.digits k.digits l.digits ++ 10 ∷ rest = arc_front bytes some letter space
    ∙ ap (λ r. 97 ∷ 32 ∷ r) (h.parts ∙ ap (λ r. h.digits ++ 32 ∷ r) (k.parts ∙ ap (λ r. k.digits ++ 32 ∷ r) l.parts))
    ∙ sym (joined h.digits k.digits l.digits rest) in
    let size : length (text_of h.digits k.digits l.digits ++ 10 ∷ rest) ≡ length (text_of h.digits k.digits l.digits) + length (10 ∷ rest)
    = length-append (text_of h.digits k.digits l.digits) (10 ∷ rest) in
    record {
      cut = ap lines_in whole ∙ text_line u v w h.digits k.digits l.digits rest h.number k.number l.number;
      less = let same = ap length whole in omega arith;
    }
