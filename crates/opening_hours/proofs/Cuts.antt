-- Texts and their tokens.
use Rattle.std.proofs.Common.{◌≡◌, ◌≢◌, ℕ, suc, ◌<◌, ◌≤◌, Bool, true, false, cond, List, [], ◌∷◌, ◌++◌, length, take, drop}
use Rattle.std.proofs.Common.{Option, Some, None, refl, sym, ap, subst, ◌∙◌, append_assoc, arith, ◌⊎◌, inl, inr, length-drop}
use Rattle.std.specs.Prelude.{◌&&◌, ◌==◌}
use Rattle.std.specs.List.{take_while, prefix_len}
use Rattle.std.specs.Option.{option_or}
use Rattle.std.proofs.lemmas.Bool.{eqb-true}
use Rattle.std.proofs.lemmas.List.Folds.{length-prefix_len}
use Rattle.std.proofs.lemmas.List.Sums.{prefix_len-le-length}
use Rattle.std.proofs.lemmas.Option.{some_pair_parts}
use Rattle.opening_hours.specs.declared.tokens.Token.{Token}
use Rattle.opening_hours.specs.declared.tokens.Token.TheVariants.{Always, Time, Number, Dash, Comma, Semicolon, Colon, LeftBracket, RightBracket}
use Rattle.opening_hours.specs.declared.tokens.Digits.TheVariants as digits
use Rattle.opening_hours.specs.Tokens.{is_digit, is_letter, one_digit, number_of_two, word_token, without_blanks}
use Rattle.route_base.specs.Forms.{is_blank}
use Rattle.opening_hours.specs.Inside.Tokenizer.{word_of, word_at, always_at, long_time_at, short_time_at, long_number_at}
use Rattle.opening_hours.specs.Inside.Tokenizer.{short_number_at, mark_at, token_at, IsMatched}

pub front_of_bytes : (p : ℕ → Bool) (ts : List ℕ) → take (length (take_while p ts)) ts ≡ take_while p ts
front_of_bytes p ts = ap (λ (n : ℕ). take n ts) (length-prefix_len p ts)

pub or_some : {A : Type 0} (o p : Option A) (x : A) → option_or o p ≡ Some x → (o ≡ Some x) ⊎ (p ≡ Some x)
or_some (Some y) p x e = inl e
or_some None p x e = inr e

abbrev pub found_one : Token → List ℕ → Option (Token × List ℕ)
found_one t rest = Some (t, rest)

if_found : (b : Bool) (t u : Token) (rest after : List ℕ) → cond b (found_one t rest) None ≡ Some (u, after) → rest ≡ after
if_found true t u rest after e = (some_pair_parts t u rest after e).1
if_found false t u rest after e = absurd cc

-- the text behind a token is shorter
Shorter : (List ℕ → Option (Token × List ℕ)) → List ℕ → Type 0
Shorter at text = (t : Token) (after : List ℕ) → at text ≡ Some (t, after) → length after < length text

word_shorter : (text : List ℕ) → Shorter word_at text
unfolding Shorter word_at
word_shorter text t after e = of_word (take_while is_letter text) refl e
  where
    of_word : (w : List ℕ) → w ≡ take_while is_letter text → word_of w (drop (length w) text) ≡ Some (t, after) → length after < length text
    of_word [] same e = absurd cc
    of_word (b ∷ bs) same e =
        let rest = (some_pair_parts (word_token (b ∷ bs)) t (drop (length (b ∷ bs)) text) after e).1 in
        let size : length (b ∷ bs) ≡ prefix_len is_letter text = ap length same ∙ length-prefix_len is_letter text in
        omega (arith, ap length rest, length-drop (length (b ∷ bs)) text, size, prefix_len-le-length is_letter text)

always_shorter : (text : List ℕ) → Shorter always_at text
unfolding Shorter
always_shorter (a ∷ b ∷ c ∷ d ∷ rest) t after e =
    omega (arith, ap length (if_found (a == 50 && (b == 52 && (c == 47 && d == 55))) Always t rest after e))
always_shorter text t after e = absurd cc

long_time_shorter : (text : List ℕ) → Shorter long_time_at text
unfolding Shorter
long_time_shorter (a ∷ b ∷ c ∷ d ∷ e ∷ rest) t after f =
    omega (
      arith,
      ap length (if_found (is_digit a && (is_digit b && (c == 58 && (is_digit d && is_digit e))))
          (Time (number_of_two a b) (number_of_two d e)) t rest after f),
    )
long_time_shorter text t after e = absurd cc

short_time_shorter : (text : List ℕ) → Shorter short_time_at text
unfolding Shorter
short_time_shorter (a ∷ c ∷ d ∷ e ∷ rest) t after f =
    omega (arith, ap length (if_found (is_digit a && (c == 58 && (is_digit d && is_digit e))) (Time (one_digit a) (number_of_two d e)) t rest after f))
short_time_shorter text t after e = absurd cc

long_number_shorter : (text : List ℕ) → Shorter long_number_at text
unfolding Shorter
long_number_shorter (a ∷ b ∷ rest) t after e =
    omega (arith, ap length (if_found (is_digit a && is_digit b) (Number (number_of_two a b) digits.Two) t rest after e))
long_number_shorter text t after e = absurd cc

short_number_shorter : (text : List ℕ) → Shorter short_number_at text
unfolding Shorter
short_number_shorter (a ∷ rest) t after e = omega (arith, ap length (if_found (is_digit a) (Number (one_digit a) digits.One) t rest after e))
short_number_shorter text t after e = absurd cc

marks : (b c d f g h : Bool) (u : Token) (rest after : List ℕ)
    → cond b (found_one Dash rest) (cond c (found_one Comma rest)
    (cond d (found_one Semicolon rest) (cond f (found_one Colon rest)
    (cond g (found_one LeftBracket rest) (cond h (found_one RightBracket rest) None))))) ≡ Some (u, after) → rest ≡ after
marks true c d f g h u rest after e = (some_pair_parts Dash u rest after e).1
marks false true d f g h u rest after e = (some_pair_parts Comma u rest after e).1
marks false false true f g h u rest after e = (some_pair_parts Semicolon u rest after e).1
marks false false false true g h u rest after e = (some_pair_parts Colon u rest after e).1
marks false false false false true h u rest after e = (some_pair_parts LeftBracket u rest after e).1
marks false false false false false true u rest after e = (some_pair_parts RightBracket u rest after e).1
marks false false false false false false u rest after e = absurd cc

mark_shorter : (text : List ℕ) → Shorter mark_at text
unfolding Shorter
mark_shorter (a ∷ rest) t after e = omega (arith, ap length (marks (a == 45) (a == 44) (a == 59) (a == 58) (a == 91) (a == 93) t rest after e))
mark_shorter text t after e = absurd cc

-- what each token of a kind is, with the text behind it
abbrev pub AllAre : (Token → List ℕ → Type 0) → Option (Token × List ℕ) → Type 0
AllAre Is found = (t : Token) (after : List ℕ) → found ≡ Some (t, after) → Is t after

either_is : (Is : Token → List ℕ → Type 0) (o p : Option (Token × List ℕ)) → AllAre Is o → AllAre Is p → AllAre Is (option_or o p)
either_is Is o p each other t after e = elim (or_some o p (t, after) e) [ inl h ↦ each t after h | inr h ↦ other t after h ]

-- what is so for each kind of token is so for the token at the front of a text
pub each_kind : (Is : Token → List ℕ → Type 0) (text : List ℕ) → AllAre Is (word_at text) → AllAre Is (long_time_at text)
    → AllAre Is (always_at text) → AllAre Is (short_time_at text) → AllAre Is (long_number_at text) → AllAre Is (short_number_at text)
    → AllAre Is (mark_at text) → AllAre Is (token_at text)
unfolding token_at
each_kind Is text word long_time always short_time long_number short_number mark =
    either_is Is (word_at text) _ word
    (either_is Is (long_time_at text) _ long_time
    (either_is Is (always_at text) _ always
    (either_is Is (short_time_at text) _ short_time
    (either_is Is (long_number_at text) _ long_number
    (either_is Is (short_number_at text) (mark_at text) short_number mark)))))

pub token_shorter : (text : List ℕ) (t : Token) (after : List ℕ) → token_at text ≡ Some (t, after) → length after < length text
unfolding Shorter
token_shorter text =
    each_kind (λ t after. length after < length text) text (word_shorter text) (long_time_shorter text) (always_shorter text)
    (short_time_shorter text) (long_number_shorter text) (short_number_shorter text) (mark_shorter text)

pub length-without_blanks : (text : List ℕ) → length (without_blanks text) ≤ length text
length-without_blanks [] = omega arith
length-without_blanks (b ∷ bs) =
    let rest = length-without_blanks bs in
    elim (is_blank b) as (λ v. length (cond v (without_blanks bs) (b ∷ bs)) ≤ suc (length bs)) [ true ↦ omega arith | false ↦ omega arith ]

-- the empty text has no token
pub no_cut : (ts : List Token) → IsMatched [] ts → ⊥
unfolding token_at word_at
no_cut [] h = h
no_cut (t ∷ []) h = cc
no_cut (t ∷ u ∷ ts) h = let f = h.1 in cc

-- a text has one list of tokens
pub one_cut : (text : List ℕ) (ts us : List Token) → IsMatched text ts → IsMatched text us → ts ≡ us
one_cut text [] us h k = absurd h
one_cut text (t ∷ ts) [] h k = absurd k
one_cut text (t ∷ []) (u ∷ []) h k = ap (λ (x : Token). x ∷ []) (some_pair_parts t u [] [] (sym h ∙ k)).0
one_cut text (t ∷ []) (u ∷ v ∷ us) h k =
    let nil = (some_pair_parts t u [] k.0 (sym h ∙ k.1)).1 in
    absurd (no_cut (v ∷ us) (subst (λ (r : List ℕ). IsMatched (without_blanks r) (v ∷ us)) (sym nil) k.2))
one_cut text (t ∷ v ∷ ts) (u ∷ []) h k =
    let nil = (some_pair_parts u t [] h.0 (sym k ∙ h.1)).1 in
    absurd (no_cut (v ∷ ts) (subst (λ (r : List ℕ). IsMatched (without_blanks r) (v ∷ ts)) (sym nil) h.2))
one_cut text (t ∷ v ∷ ts) (u ∷ w ∷ us) h k =
    let p = some_pair_parts t u h.0 k.0 (sym h.1 ∙ k.1) in
    let first = p.0 in
    let same = sym p.1 in
    let rest = one_cut (without_blanks h.0) (v ∷ ts) (w ∷ us) h.2 (subst (λ (r : List ℕ). IsMatched (without_blanks r) (w ∷ us)) same k.2) in
    ap (λ (x : Token). x ∷ v ∷ ts) first ∙ ap (λ (xs : List Token). u ∷ xs) rest

-- the invariant of a loop over the tokens
pub record MatchedSoFar (text rest : List ℕ) (front : List Token) : Type 0 where
  pub found : (us : List Token) → IsMatched rest us → IsMatched text (front ++ us)
  pub only : (us : List Token) → IsMatched text us → (vs : List Token) × (us ≡ front ++ vs) × IsMatched rest vs

pub begins : (text : List ℕ) → MatchedSoFar text text []
begins text = record { found = λ us h. h; only = λ us h. (us, refl, h) }

pub then_cut : (rest after : List ℕ) (t : Token) (us : List Token) → token_at rest ≡ Some (t, after)
    → IsMatched (without_blanks after) us → IsMatched rest (t ∷ us)
then_cut rest after t [] e h = absurd h
then_cut rest after t (u ∷ us) e h = (after, e, h)

cut_then : (rest after : List ℕ) (t : Token) (vs : List Token) → token_at rest ≡ Some (t, after) → after ≢ []
    → IsMatched rest vs → (us : List Token) × (vs ≡ t ∷ us) × IsMatched (without_blanks after) us
cut_then rest after t [] e some h = absurd h
cut_then rest after t (v ∷ []) e some h = absurd (some (some_pair_parts t v after [] (sym e ∙ h)).1)
cut_then rest after t (v ∷ w ∷ vs) e some h =
    let p = some_pair_parts v t h.0 after (sym h.1 ∙ e) in
    let first = p.0 in
    let same = p.1 in
    (w ∷ vs, ap (λ (x : Token). x ∷ w ∷ vs) first, subst (λ (r : List ℕ). IsMatched (without_blanks r) (w ∷ vs)) same h.2)

pub cut_goes_on : (text rest after : List ℕ) (front : List Token) (t : Token) → token_at rest ≡ Some (t, after) → after ≢ []
    → MatchedSoFar text rest front → MatchedSoFar text (without_blanks after) (front ++ t ∷ [])
cut_goes_on text rest after front t e some s = record {
  found = λ us h. subst (IsMatched text) (sym (append_assoc front (t ∷ []) us)) (s.found (t ∷ us) (then_cut rest after t us e h));
  only = λ us h.
      let v = s.only us h in
      let w = cut_then rest after t v.0 e some v.2 in
      (w.0, v.1 ∙ ap (λ (xs : List Token). front ++ xs) w.1 ∙ sym (append_assoc front (t ∷ []) w.0), w.2);
}

pub cut_ends : (text rest after : List ℕ) (front : List Token) (t : Token) → token_at rest ≡ Some (t, after) → after ≡ []
    → MatchedSoFar text rest front → IsMatched text (front ++ t ∷ [])
cut_ends text rest after front t e nil s = s.found (t ∷ []) (e ∙ ap (λ (r : List ℕ). Some (t, r)) nil)

no_tokens : (rest : List ℕ) (vs : List Token) → token_at rest ≡ None → IsMatched rest vs → ⊥
no_tokens rest [] e h = h
no_tokens rest (v ∷ []) e h = cc
no_tokens rest (v ∷ w ∷ vs) e h = let f = h.1 in cc

pub cut_fails : (text rest : List ℕ) (front : List Token) → token_at rest ≡ None → MatchedSoFar text rest front → (ts : List Token) → IsMatched text ts → ⊥
cut_fails text rest front e s ts h = let v = s.only ts h in no_tokens rest v.0 e v.2

pub not_nil : (xs : List ℕ) → false ≡ (length xs == 0) → xs ≢ []
not_nil [] e = absurd cc
not_nil (x ∷ xs) e = λ nil. cc

pub nil : (xs : List ℕ) → true ≡ (length xs == 0) → xs ≡ []
nil [] e = refl
nil (x ∷ xs) e = let z : suc (length xs) ≡ 0 = eqb-true (suc (length xs)) 0 (sym e) in absurd (omega arith)
