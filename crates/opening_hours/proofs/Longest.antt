-- The token that is found is the longest.
use Rattle.std.proofs.Common.{◌≡◌, ℕ, ◌+◌, ◌<◌, ◌≤◌, Bool, true, false, cond, List, [], ◌∷◌, ◌++◌, length, take, drop}
use Rattle.std.proofs.Common.{Option, Some, None, refl, sym, ap, subst, ◌∙◌, arith, length-drop, length-append}
use Rattle.std.specs.Prelude.{◌==◌, ◌&&◌, codes}
use Rattle.std.specs.List.{take_while, prefix_len}
use Rattle.std.specs.Option.{option_or}
use Rattle.std.proofs.lemmas.Bool.{eqb-true, and_parts}
use Rattle.std.proofs.lemmas.Grind.{common_steps}
use Rattle.std.proofs.lemmas.List.{take-append-drop}
use Rattle.std.proofs.lemmas.List.Folds.{length-prefix_len}
use Rattle.std.proofs.lemmas.List.Sums.{take_while-cons}
use Rattle.std.proofs.lemmas.Option.{some_pair_parts}
use Rattle.opening_hours.specs.declared.tokens.Token.{Token}
use Rattle.opening_hours.specs.declared.tokens.Token.TheVariants.{Always, Time, Number, Dash, Comma, Semicolon, Colon, LeftBracket, RightBracket}
use Rattle.opening_hours.specs.declared.tokens.Digits.TheVariants as digits
use Rattle.opening_hours.specs.Tokens.{is_digit, is_letter, one_digit, number_of_two}
use Rattle.opening_hours.specs.Tokens.{word_token, AreLetters, IsToken, IsFirstToken}
use Rattle.opening_hours.specs.Tokens.{without_blanks, IsCut}
use Rattle.opening_hours.specs.Inside.Tokenizer.{word_of, word_at, always_at, long_time_at, short_time_at, long_number_at}
use Rattle.opening_hours.specs.Inside.Tokenizer.{short_number_at, mark_at, token_at, IsMatched}
use Rattle.opening_hours.specs.Tokens as tokens
use Rattle.opening_hours.proofs.Cuts.{each_kind, token_shorter, found_one}
use Rattle.opening_hours.proofs.Spelled.{no_word, word_first, time_first, mark_first, always_first, end_false}

-- a token in front of a text, and what is behind it
abbrev pub Front : List ℕ → Token → List ℕ → Type 0
Front text t rest = (w : List ℕ) × (text ≡ w ++ rest) × IsToken w t

if_some : (b : Bool) (t u : Token) (rest after : List ℕ) → cond b (found_one t rest) None ≡ Some (u, after) → (b ≡ true) × (t ≡ u) × (rest ≡ after)
if_some true t u rest after e = let p = some_pair_parts t u rest after e in (refl, p.0, p.1)
if_some false t u rest after e = absurd cc

front_is : (w rest after : List ℕ) (t u : Token) → IsToken w t → t ≡ u → rest ≡ after → Front (w ++ rest) u after
front_is w rest after t u h same back = (w, ap (λ (r : List ℕ). w ++ r) back, subst (IsToken w) same h)

letters_cond : (b : ℕ) (w : List ℕ) (v : Bool) → is_letter b ≡ v → AreLetters w → AreLetters (cond v (b ∷ w) [])
letters_cond b w true e h = (e, h)
letters_cond b w false e h = tt

letters_of : (text : List ℕ) → AreLetters (take_while is_letter text)
letters_of [] = tt
letters_of (b ∷ bs) = subst AreLetters (sym (take_while-cons is_letter b bs))
    (letters_cond b (take_while is_letter bs) (is_letter b) refl (letters_of bs))

word_front : (text : List ℕ) (t : Token) (after : List ℕ) → word_at text ≡ Some (t, after) → Front text t after
unfolding word_at
word_front text t after e = of_word (take_while is_letter text) refl (letters_of text) e
  where
    of_word : (w : List ℕ) → w ≡ take_while is_letter text → AreLetters w → word_of w (drop (length w) text) ≡ Some (t, after) → Front text t after
    of_word [] same h e = absurd cc
    of_word (b ∷ bs) same h e =
        let p = some_pair_parts (word_token (b ∷ bs)) t (drop (length (b ∷ bs)) text) after e in
        let n : length (b ∷ bs) ≡ prefix_len is_letter text = ap length same ∙ length-prefix_len is_letter text in
        let front : take (length (b ∷ bs)) text ≡ b ∷ bs = ap (λ k. take k text) n ∙ sym same in
        let whole : text ≡ (b ∷ bs) ++ drop (length (b ∷ bs)) text = sym (take-append-drop (length (b ∷ bs)) text)
        ∙ ap (λ (w : List ℕ). w ++ drop (length (b ∷ bs)) text) front in
        (b ∷ bs, whole ∙ ap (λ (r : List ℕ). (b ∷ bs) ++ r) p.1, subst (IsToken (b ∷ bs)) p.0 (tokens.word h))

four_true : (a b c d : Bool) → a && (b && (c && d)) ≡ true → (a ≡ true) × (b ≡ true) × (c ≡ true) × (d ≡ true)
four_true a b c d e = let p = and_parts a (b && (c && d)) e in let q = and_parts b (c && d) p.1 in let r = and_parts c d q.1 in (p.0, q.0, r.0, r.1)

always_front : (text : List ℕ) (t : Token) (after : List ℕ) → always_at text ≡ Some (t, after) → Front text t after
always_front (a ∷ b ∷ c ∷ d ∷ rest) t after e =
    let f = if_some (a == 50 && (b == 52 && (c == 47 && d == 55))) Always t rest after e in
    let g = four_true (a == 50) (b == 52) (c == 47) (d == 55) f.0 in
    let same : a ∷ b ∷ c ∷ d ∷ [] ≡ codes "24/7" = ap (λ x. x ∷ b ∷ c ∷ d ∷ []) (eqb-true a 50 g.0)
    ∙ ap (λ x. 50 ∷ x ∷ c ∷ d ∷ []) (eqb-true b 52 g.1) ∙ ap (λ x. 50 ∷ 52 ∷ x ∷ d ∷ []) (eqb-true c 47 g.2)
    ∙ ap (λ x. 50 ∷ 52 ∷ 47 ∷ x ∷ []) (eqb-true d 55 g.3) in
    front_is (a ∷ b ∷ c ∷ d ∷ []) rest after Always t (subst (λ (w : List ℕ). IsToken w Always) (sym same) tokens.always) f.1 f.2
always_front text t after e = absurd cc

long_time_front : (text : List ℕ) (t : Token) (after : List ℕ) → long_time_at text ≡ Some (t, after) → Front text t after
long_time_front (a ∷ b ∷ c ∷ d ∷ e ∷ rest) t after h =
    let f = if_some (is_digit a && (is_digit b && (c == 58 && (is_digit d && is_digit e)))) (Time (number_of_two a b) (number_of_two d e)) t rest after h in
    let g = four_true (is_digit a) (is_digit b) (c == 58) (is_digit d && is_digit e) f.0 in
    let k = and_parts (is_digit d) (is_digit e) g.3 in
    let is : IsToken (a ∷ b ∷ c ∷ d ∷ e ∷ []) (Time (number_of_two a b) (number_of_two d e)) =
    subst (λ (x : ℕ). IsToken (a ∷ b ∷ x ∷ d ∷ e ∷ []) (Time (number_of_two a b) (number_of_two d e)))
    (sym (eqb-true c 58 g.2)) (tokens.long_time g.0 g.1 k.0 k.1) in
    front_is (a ∷ b ∷ c ∷ d ∷ e ∷ []) rest after (Time (number_of_two a b) (number_of_two d e)) t is f.1 f.2
long_time_front text t after e = absurd cc

short_time_front : (text : List ℕ) (t : Token) (after : List ℕ) → short_time_at text ≡ Some (t, after) → Front text t after
short_time_front (a ∷ c ∷ d ∷ e ∷ rest) t after h =
    let f = if_some (is_digit a && (c == 58 && (is_digit d && is_digit e))) (Time (one_digit a) (number_of_two d e)) t rest after h in
    let g = four_true (is_digit a) (c == 58) (is_digit d) (is_digit e) f.0 in
    let is : IsToken (a ∷ c ∷ d ∷ e ∷ []) (Time (one_digit a) (number_of_two d e)) =
    subst (λ (x : ℕ). IsToken (a ∷ x ∷ d ∷ e ∷ []) (Time (one_digit a) (number_of_two d e))) (sym (eqb-true c 58 g.1))
    (tokens.short_time g.0 g.2 g.3) in
    front_is (a ∷ c ∷ d ∷ e ∷ []) rest after (Time (one_digit a) (number_of_two d e)) t is f.1 f.2
short_time_front text t after e = absurd cc

long_number_front : (text : List ℕ) (t : Token) (after : List ℕ) → long_number_at text ≡ Some (t, after) → Front text t after
long_number_front (a ∷ b ∷ rest) t after h =
    let f = if_some (is_digit a && is_digit b) (Number (number_of_two a b) digits.Two) t rest after h in
    let g = and_parts (is_digit a) (is_digit b) f.0 in
    front_is (a ∷ b ∷ []) rest after (Number (number_of_two a b) digits.Two) t (tokens.long_number g.0 g.1) f.1 f.2
long_number_front text t after e = absurd cc

short_number_front : (text : List ℕ) (t : Token) (after : List ℕ) → short_number_at text ≡ Some (t, after) → Front text t after
short_number_front (a ∷ rest) t after h =
    let f = if_some (is_digit a) (Number (one_digit a) digits.One) t rest after h in
    front_is (a ∷ []) rest after (Number (one_digit a) digits.One) t (tokens.short_number f.0) f.1 f.2
short_number_front text t after e = absurd cc

mark_front : (text : List ℕ) (t : Token) (after : List ℕ) → mark_at text ≡ Some (t, after) → Front text t after
mark_front (a ∷ rest) t after h = by (a == 45) (a == 44) (a == 59) (a == 58) (a == 91) (a == 93) refl refl refl refl refl refl h
  where
    one : (k : ℕ) (u : Token) → (a == k) ≡ true → IsToken (k ∷ []) u → found_one u rest ≡ Some (t, after) → Front (a ∷ rest) t after
    one k u is token e = let p = some_pair_parts u t rest after e in
        front_is (a ∷ []) rest after u t (subst (λ (x : ℕ). IsToken (x ∷ []) u) (sym (eqb-true a k is)) token) p.0 p.1

    by : (b c d f g k : Bool) → (a == 45) ≡ b → (a == 44) ≡ c → (a == 59) ≡ d → (a == 58) ≡ f → (a == 91) ≡ g → (a == 93) ≡ k
        → cond b (found_one Dash rest) (cond c (found_one Comma rest)
        (cond d (found_one Semicolon rest) (cond f (found_one Colon rest)
        (cond g (found_one LeftBracket rest) (cond k (found_one RightBracket rest) None))))) ≡ Some (t, after) → Front (a ∷ rest) t after
    by true c d f g k p q r s v w e = one 45 Dash p tokens.dash e
    by false true d f g k p q r s v w e = one 44 Comma q tokens.comma e
    by false false true f g k p q r s v w e = one 59 Semicolon r tokens.semicolon e
    by false false false true g k p q r s v w e = one 58 Colon s tokens.colon e
    by false false false false true k p q r s v w e = one 91 LeftBracket v tokens.left_bracket e
    by false false false false false true p q r s v w e = one 93 RightBracket w tokens.right_bracket e
    by false false false false false false p q r s v w e = absurd cc
mark_front text t after e = absurd cc

pub token_front : (text : List ℕ) (t : Token) (after : List ℕ) → token_at text ≡ Some (t, after) → Front text t after
token_front text =
    each_kind (Front text) text (word_front text) (long_time_front text) (always_front text) (short_time_front text)
    (long_number_front text) (short_number_front text) (mark_front text)

-- something at least as long is found wherever a token stands in front
abbrev pub ReachesAsFar : List ℕ → List ℕ → Type 0
ReachesAsFar text more = (t : Token) × (rest : List ℕ) × (token_at text ≡ Some (t, rest)) × (length rest ≤ length more)

digit_dark : (a : ℕ) → is_digit a ≡ true → is_letter a ≡ false
digit_dark a e = grind (arith, common_steps)

digit_not : (a k : ℕ) → is_digit a ≡ true → 57 < k → (a == k) ≡ false
digit_not a k e h = grind (arith, common_steps)

prefix_more : (w more : List ℕ) → AreLetters w → length w ≤ prefix_len is_letter (w ++ more)
prefix_more [] more h = omega arith
prefix_more (b ∷ bs) more h =
    let rest = prefix_more bs more h.1 in
    let one : prefix_len is_letter (b ∷ (bs ++ more)) ≡ 1 + prefix_len is_letter (bs ++ more) =
    ap (λ v. cond v (1 + prefix_len is_letter (bs ++ more)) 0) h.0 in
    omega (arith, one, rest)

word_reaches : (b : ℕ) (bs more : List ℕ) → AreLetters (b ∷ bs) → ReachesAsFar ((b ∷ bs) ++ more) more
unfolding token_at word_at
word_reaches b bs more h =
    let text = (b ∷ bs) ++ more in
    let w = b ∷ take_while is_letter (bs ++ more) in
    let front : take_while is_letter text ≡ w = take_while-cons is_letter b (bs ++ more)
    ∙ ap (λ v. cond v (b ∷ take_while is_letter (bs ++ more)) []) h.0 in
    let rest = drop (length w) text in
    let n : length w ≡ prefix_len is_letter text = ap length (sym front) ∙ length-prefix_len is_letter text in
    let small : length rest ≤ length more = omega (arith, length-drop (length w) text, n, prefix_more (b ∷ bs) more h, length-append (b ∷ bs) more) in
    (word_token w, rest, rw front refl, small)

short_time_reaches : (a d e : ℕ) (more : List ℕ) → is_digit a ≡ true → is_digit d ≡ true → is_digit e ≡ true → ReachesAsFar (a ∷ 58 ∷ d ∷ e ∷ more) more
unfolding token_at
short_time_reaches a d e [] ha hd he = (
  Time (one_digit a)
      (number_of_two d e),
  [],
  rw (no_word a (58 ∷ d ∷ e ∷ []) (digit_dark a ha), ha, hd, he, end_false (a == 50)) refl,
  omega arith,
)
short_time_reaches a d e (x ∷ more) ha hd he = (
  Time (one_digit a) (number_of_two d e),
  x ∷ more,
  rw (
    no_word a (58 ∷ d ∷ e ∷ x ∷ more)
        (digit_dark a ha),
    ha,
    hd,
    he,
    end_false (a == 50),
  ) refl,
  omega arith,
)

or_has : {A : Type 0} (o p : Option A) → ((x : A) × (p ≡ Some x)) → (x : A) × (option_or o p ≡ Some x)
or_has (Some y) p h = (y, refl)
or_has None p h = h

-- an earlier kind, if it is found, leaves no more than a later one
or_reaches : (o p : Option (Token × List ℕ)) (bound : ℕ) → ((t : Token) (after : List ℕ) → o ≡ Some (t, after) → length after ≤ bound)
    → ((t : Token) × (after : List ℕ) × (p ≡ Some (t, after)) × (length after ≤ bound)) → (t : Token) × (after : List ℕ)
    × (option_or o p ≡ Some (t, after)) × (length after ≤ bound)
or_reaches (Some z) p bound h k = (z.0, z.1, refl, h z.0 z.1 refl)
or_reaches None p bound h k = k

module _ (a b : ℕ) (t : Token) (after : List ℕ) where
  long_time_leaves : (more : List ℕ) → long_time_at (a ∷ b ∷ more) ≡ Some (t, after) → length after ≤ length more
  long_time_leaves (c ∷ d ∷ e ∷ rest) h = omega (
    arith,
    ap length (if_some (is_digit a && (is_digit b && (c == 58 && (is_digit d && is_digit e))))
        (Time (number_of_two a b) (number_of_two d e)) t rest after h).2,
  )
  long_time_leaves more h = absurd cc

  always_leaves : (more : List ℕ) → always_at (a ∷ b ∷ more) ≡ Some (t, after) → length after ≤ length more
  always_leaves (c ∷ d ∷ rest) h = omega (arith, ap length (if_some (a == 50 && (b == 52 && (c == 47 && d == 55))) Always t rest after h).2)
  always_leaves more h = absurd cc

  short_time_leaves : (more : List ℕ) → short_time_at (a ∷ b ∷ more) ≡ Some (t, after) → length after ≤ length more
  short_time_leaves (d ∷ e ∷ rest) h = omega (
    arith,
    ap length
        (if_some (is_digit a && (b == 58 && (is_digit d && is_digit e))) (Time (one_digit a) (number_of_two d e)) t rest after h).2,
  )
  short_time_leaves more h = absurd cc

long_number_reaches : (a b : ℕ) (more : List ℕ) → is_digit a ≡ true → is_digit b ≡ true → ReachesAsFar (a ∷ b ∷ more) more
unfolding token_at
long_number_reaches a b more ha hb =
    let text = a ∷ b ∷ more in
    let tail = option_or (short_number_at text) (mark_at text) in
    let number : option_or (long_number_at text) tail ≡ Some (Number (number_of_two a b) digits.Two, more) = rw (ha, hb) refl in
    let found = or_reaches (long_time_at text) _ (length more) (λ t after e. long_time_leaves a b t after more e)
    (or_reaches (always_at text) _ (length more) (λ t after e. always_leaves a b t after more e)
    (or_reaches (short_time_at text) (option_or (long_number_at text) tail) (length more) (λ t after e. short_time_leaves a b t after more e)
    (Number (number_of_two a b) digits.Two, more, number, omega arith))) in
    (found.0, found.1, rw (no_word a (b ∷ more) (digit_dark a ha)) found.2, found.3)

short_number_reaches : (a : ℕ) (more : List ℕ) → is_digit a ≡ true → ReachesAsFar (a ∷ more) more
unfolding token_at
short_number_reaches a more ha =
    let text = a ∷ more in
    let number : option_or (short_number_at text) (mark_at text) ≡ Some (Number (one_digit a) digits.One, more) = rw ha refl in
    let found = or_has (word_at text) _ (or_has (long_time_at text) _
    (or_has (always_at text) _ (or_has (short_time_at text) _
    (or_has (long_number_at text) (option_or (short_number_at text) (mark_at text)) ((Number (one_digit a) digits.One, more), number))))) in
    let whole : token_at text ≡ Some (found.0.0, found.0.1) = found.1 in
    (found.0.0, found.0.1, whole, omega (arith, token_shorter text found.0.0 found.0.1 whole))

reaches : (other more : List ℕ) (u : Token) → IsToken other u → ReachesAsFar (other ++ more) more
reaches other more u (tokens.word {b = b} {bs = bs} h) = word_reaches b bs more h
reaches other more u tokens.always = (Always, more, always_first more, omega arith)
reaches other more u (tokens.long_time {a = a} {b = b} {d = d} {e = e} ha hb hd he) =
    (Time (number_of_two a b) (number_of_two d e), more, time_first a b d e more (digit_dark a ha) ha hb hd he, omega arith)
reaches other more u (tokens.short_time {a = a} {d = d} {e = e} ha hd he) = short_time_reaches a d e more ha hd he
reaches other more u (tokens.long_number {a = a} {b = b} ha hb) = long_number_reaches a b more ha hb
reaches other more u (tokens.short_number {a = a} ha) = short_number_reaches a more ha
reaches other more u tokens.dash = (Dash, more, mark_first 45 more Dash refl refl refl refl, omega arith)
reaches other more u tokens.comma = (Comma, more, mark_first 44 more Comma refl refl refl refl, omega arith)
reaches other more u tokens.semicolon = (Semicolon, more, mark_first 59 more Semicolon refl refl refl refl, omega arith)
reaches other more u tokens.colon = (Colon, more, mark_first 58 more Colon refl refl refl refl, omega arith)
reaches other more u tokens.left_bracket = (LeftBracket, more, mark_first 91 more LeftBracket refl refl refl refl, omega arith)
reaches other more u tokens.right_bracket = (RightBracket, more, mark_first 93 more RightBracket refl refl refl refl, omega arith)

-- The token that is found stands at the front, and no longer one does.
pub found_first : (text : List ℕ) (t : Token) (rest : List ℕ) → token_at text ≡ Some (t, rest) → IsFirstToken text t rest
found_first text t rest e =
    let f = token_front text t rest e in
    record {
      lexeme = f.0;
      parts = f.1;
      is = f.2;
      longest = λ other more u parts token.
          let r = reaches other more u token in
          let p = some_pair_parts t r.0 rest r.1 (sym e ∙ ap token_at parts ∙ r.2) in
          omega (arith, r.3, ap length p.1, ap length (sym f.1 ∙ parts), length-append f.0 rest, length-append other more);
    }

-- Where none is found, none stands at the front.
pub none_first : (text : List ℕ) → token_at text ≡ None → (other more : List ℕ) (u : Token) → text ≡ other ++ more → IsToken other u → ⊥
none_first text e other more u parts token = let r = reaches other more u token in
    let f : token_at text ≡ Some (r.0, r.1) = ap token_at parts ∙ r.2 in cc

-- a token's own bytes give the token
token_alone : {w : List ℕ} {t : Token} → IsToken w t → token_at (w ++ []) ≡ Some (t, [])
unfolding token_at
token_alone (tokens.word {b = b} {bs = bs} h) = word_first (b ∷ bs) b bs [] (word_token (b ∷ bs)) refl h refl tt
token_alone tokens.always = always_first []
token_alone (tokens.long_time {a = a} {b = b} {d = d} {e = e} ha hb hd he) = time_first a b d e [] (digit_dark a ha) ha hb hd he
token_alone (tokens.short_time {a = a} {d = d} {e = e} ha hd he) =
    rw (no_word a (58 ∷ d ∷ e ∷ []) (digit_dark a ha), ha, hd, he, end_false (a == 50)) refl
token_alone (tokens.long_number {a = a} {b = b} ha hb) = rw (no_word a (b ∷ []) (digit_dark a ha), ha, hb) refl
token_alone (tokens.short_number {a = a} ha) = rw (no_word a [] (digit_dark a ha), ha) refl
token_alone tokens.dash = mark_first 45 [] Dash refl refl refl refl
token_alone tokens.comma = mark_first 44 [] Comma refl refl refl refl
token_alone tokens.semicolon = mark_first 59 [] Semicolon refl refl refl refl
token_alone tokens.colon = mark_first 58 [] Colon refl refl refl refl
token_alone tokens.left_bracket = mark_first 91 [] LeftBracket refl refl refl refl
token_alone tokens.right_bracket = mark_first 93 [] RightBracket refl refl refl refl

one_token : (w : List ℕ) (t u : Token) → IsToken w t → IsToken w u → t ≡ u
one_token w t u h k = (some_pair_parts t u [] [] (sym (token_alone h) ∙ token_alone k)).0

-- fronts of one length are the same
same_front : (xs ys cs ds : List ℕ) → xs ++ cs ≡ ys ++ ds → length xs ≡ length ys → (xs ≡ ys) × (cs ≡ ds)
same_front [] [] cs ds e n = (refl, e)
same_front [] (y ∷ ys) cs ds e n = absurd (omega arith)
same_front (x ∷ xs) [] cs ds e n = absurd (omega arith)
same_front (x ∷ xs) (y ∷ ys) cs ds e n =
    let first : x ≡ y = cc in
    let later : xs ++ cs ≡ ys ++ ds = cc in
    let p = same_front xs ys cs ds later (omega arith) in
    (ap (λ z. z ∷ xs) first ∙ ap (λ (zs : List ℕ). y ∷ zs) p.0, p.1)

-- two longest tokens at the front are one
one_first : (text : List ℕ) (t u : Token) (rest after : List ℕ) → IsFirstToken text t rest → IsFirstToken text u after → (t ≡ u) × (rest ≡ after)
one_first text t u rest after h k =
    let n : length h.lexeme ≡ length k.lexeme = omega (arith, h.longest k.lexeme after u k.parts k.is, k.longest h.lexeme rest t h.parts h.is) in
    let p = same_front h.lexeme k.lexeme rest after (sym h.parts ∙ k.parts) n in
    (one_token k.lexeme t u (subst (λ (w : List ℕ). IsToken w t) p.0 h.is) k.is, p.1)

-- The longest token is the one that is found.
pub first_found : (text : List ℕ) (t : Token) (rest : List ℕ) → IsFirstToken text t rest → token_at text ≡ Some (t, rest)
first_found text t rest h = by (token_at text) refl
  where
    by : (o : Option (Token × List ℕ)) → token_at text ≡ o → o ≡ Some (t, rest)
    by None e = absurd (none_first text e h.lexeme rest t h.parts h.is)
    by (Some f) e =
        let p = one_first text f.0 t f.1 rest (found_first text f.0 f.1 e) h in
        ap (λ (u : Token). Some (u, f.1)) p.0 ∙ ap (λ (r : List ℕ). Some (t, r)) p.1

-- A text is cut by the longest match where each token is the one that is found, and nowhere else.
pub cut_of : (text : List ℕ) (ts : List Token) → IsMatched text ts → IsCut text ts
cut_of text [] h = h
cut_of text (t ∷ []) h = found_first text t [] h
cut_of text (t ∷ u ∷ ts) h = (h.0, found_first text t h.0 h.1, cut_of (without_blanks h.0) (u ∷ ts) h.2)

pub match_of : (text : List ℕ) (ts : List Token) → IsCut text ts → IsMatched text ts
match_of text [] h = h
match_of text (t ∷ []) h = first_found text t [] h
match_of text (t ∷ u ∷ ts) h = (h.0, first_found text t h.0 h.1, match_of (without_blanks h.0) (u ∷ ts) h.2)
