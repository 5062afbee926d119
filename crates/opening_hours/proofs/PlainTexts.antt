-- Texts of hours within others.
use Rattle.std.proofs.Common.{◌≡◌, ◌≢◌, ℕ, ◌<◌, ◌≤◌, ltb, Bool, true, false, cond, List, [], ◌∷◌, ◌++◌, Some, refl, sym, ap}
use Rattle.std.proofs.Common.{subst, ◌∙◌, arith, ◌⊎◌, inl, inr, append-nil}
use Rattle.std.specs.Prelude.{◌==◌, codes}
use Rattle.std.specs.List.{list_all}
use Rattle.std.specs.Str.{bytes_eq}
use Rattle.std.proofs.lemmas.Bool.{and_parts, ltb-true}
use Rattle.std.proofs.lemmas.Grind.{common_steps}
use Rattle.std.proofs.lemmas.List.Folds.{list_all-append}
use Rattle.std.proofs.lemmas.Slice.Eq.{bytes_eq-Decides}
use Rattle.std.proofs.lemmas.Option.{some_pair_parts}
use Rattle.opening_hours.specs.declared.tokens.Token.{Token}
use Rattle.opening_hours.specs.declared.tokens.Token.TheVariants.{Unknown, Open}
use Rattle.opening_hours.specs.declared.types.HoursRule.{HoursRule}
use Rattle.opening_hours.specs.Tokens.{is_digit, is_letter, months, weekdays, token_in, other_token}
use Rattle.route_base.specs.Forms.{is_blank}
use Rattle.route_base.proofs.Logic.{or-true}
use Rattle.opening_hours.specs.Tokens.{weekday_token, word_token, AreLetters, IsToken, without_blanks}
use Rattle.opening_hours.specs.Tokens as tokens
use Rattle.opening_hours.specs.Inside.Tokenizer.{token_at, IsMatched}
use Rattle.opening_hours.specs.Grammar.{IsRules}
use Rattle.opening_hours.specs.Hours.{IsHours}
use Rattle.opening_hours.specs.PlainText.{is_hours_byte, StartsFilled, EndsFilled, IsPlain}
use Rattle.opening_hours.specs.Inside.Parser.{read_rule, read_rules}
use Rattle.opening_hours.proofs.Cuts.{no_cut}
use Rattle.opening_hours.proofs.Longest.{match_of, token_front}
use Rattle.opening_hours.proofs.Spelled.{Calm, Spells, AllSpell, word_first, rules_spell}
use Rattle.opening_hours.proofs.Rules.{rules_again}

-- bytes of a token: of hours, and no blanks
abbrev AllFilled : List ℕ → Type 0
AllFilled [] = Unit {0}
AllFilled (b ∷ bs) = (is_blank b ≡ false) × (is_hours_byte b ≡ true) × AllFilled bs

pub digit_no_blank : (b : ℕ) → is_digit b ≡ true → is_blank b ≡ false
digit_no_blank b h = grind (arith, common_steps)

letter_no_blank : (b : ℕ) → is_letter b ≡ true → is_blank b ≡ false
letter_no_blank b h = grind (arith, common_steps)

hours_digit : (b : ℕ) → is_digit b ≡ true → is_hours_byte b ≡ true
hours_digit b h = rw h (or-true (is_letter b))

hours_letter : (b : ℕ) → is_letter b ≡ true → is_hours_byte b ≡ true
hours_letter b h = rw h refl

hours_blank : (b : ℕ) → is_blank b ≡ true → is_hours_byte b ≡ true
hours_blank b h = rw (h, or-true (is_digit b)) (or-true (is_letter b))

letters_filled : (w : List ℕ) → AreLetters w → AllFilled w
letters_filled [] h = tt
letters_filled (b ∷ bs) h = (letter_no_blank b h.0, hours_letter b h.0, letters_filled bs h.1)

token_filled : {w : List ℕ} {t : Token} → IsToken w t → AllFilled w
token_filled (tokens.word {b = b} {bs = bs} h) = letters_filled (b ∷ bs) h
token_filled tokens.always = (refl, refl, (refl, refl, (refl, refl, (refl, refl, tt))))
token_filled (tokens.long_time {a = a} {b = b} {d = d} {e = e} ha hb hd he) = (
  digit_no_blank a ha,
  hours_digit a ha,
  (
    digit_no_blank b hb,
    hours_digit b hb,
    (refl, refl, (digit_no_blank d hd, hours_digit d hd, (digit_no_blank e he, hours_digit e he, tt))),
  ),
)
token_filled (tokens.short_time {a = a} {d = d} {e = e} ha hd he) =
    (digit_no_blank a ha, hours_digit a ha, (refl, refl, (digit_no_blank d hd, hours_digit d hd, (digit_no_blank e he, hours_digit e he, tt))))
token_filled (tokens.long_number {a = a} {b = b} ha hb) = (digit_no_blank a ha, hours_digit a ha, (digit_no_blank b hb, hours_digit b hb, tt))
token_filled (tokens.short_number {a = a} ha) = (digit_no_blank a ha, hours_digit a ha, tt)
token_filled tokens.dash = (refl, refl, tt)
token_filled tokens.comma = (refl, refl, tt)
token_filled tokens.semicolon = (refl, refl, tt)
token_filled tokens.colon = (refl, refl, tt)
token_filled tokens.left_bracket = (refl, refl, tt)
token_filled tokens.right_bracket = (refl, refl, tt)

-- a token has a byte
some_byte : {w : List ℕ} {t : Token} → IsToken w t → (b : ℕ) × (bs : List ℕ) × (w ≡ b ∷ bs)
some_byte (tokens.word {b = b} {bs = bs} h) = (b, bs, refl)
some_byte tokens.always = (50, codes "4/7", refl)
some_byte (tokens.long_time {a = a} {b = b} {d = d} {e = e} _ _ _ _) = (a, b ∷ 58 ∷ d ∷ e ∷ [], refl)
some_byte (tokens.short_time {a = a} {d = d} {e = e} _ _ _) = (a, 58 ∷ d ∷ e ∷ [], refl)
some_byte (tokens.long_number {a = a} {b = b} _ _) = (a, b ∷ [], refl)
some_byte (tokens.short_number {a = a} _) = (a, [], refl)
some_byte tokens.dash = (45, [], refl)
some_byte tokens.comma = (44, [], refl)
some_byte tokens.semicolon = (59, [], refl)
some_byte tokens.colon = (58, [], refl)
some_byte tokens.left_bracket = (91, [], refl)
some_byte tokens.right_bracket = (93, [], refl)

starts_with : (w rest : List ℕ) (b : ℕ) (bs : List ℕ) → w ≡ b ∷ bs → AllFilled w → StartsFilled (w ++ rest)
starts_with [] rest b bs e h = absurd cc
starts_with (x ∷ xs) rest b bs e h = h.0

filled_bytes : (w : List ℕ) → AllFilled w → list_all is_hours_byte w ≡ true
filled_bytes [] h = refl
filled_bytes (b ∷ bs) h = rw h.1 (filled_bytes bs h.2)

pub ends_within : (ts : List ℕ) (us : List ℕ) → EndsFilled us → EndsFilled (ts ++ us)
ends_within [] us h = h
ends_within (t ∷ []) [] h = absurd h
ends_within (t ∷ []) (u ∷ us) h = h
ends_within (t ∷ s ∷ ts) us h = ends_within (s ∷ ts) us h

ends_filled : (b : ℕ) (bs : List ℕ) → AllFilled (b ∷ bs) → EndsFilled (b ∷ bs)
ends_filled b [] h = h.0
ends_filled b (c ∷ cs) h = ends_filled c cs h.2

-- a fact of the text behind blanks holds with them
bytes_blanks : (text : List ℕ) → list_all is_hours_byte (without_blanks text) ≡ true → list_all is_hours_byte text ≡ true
bytes_blanks [] h = refl
bytes_blanks (b ∷ bs) h = by (is_blank b) refl (bytes_blanks bs) h
  where
    by : (v : Bool) → is_blank b ≡ v → (list_all is_hours_byte (without_blanks bs) ≡ true → list_all is_hours_byte bs ≡ true)
        → list_all is_hours_byte (cond v (without_blanks bs) (b ∷ bs)) ≡ true → list_all is_hours_byte (b ∷ bs) ≡ true
    by true e later h = rw (hours_blank b e) (later h)
    by false e later h = h

ends_blanks : (text : List ℕ) → EndsFilled (without_blanks text) → EndsFilled text
ends_blanks [] h = h
ends_blanks (b ∷ bs) h = by (is_blank b) (ends_blanks bs) h
  where
    by : (v : Bool) → (EndsFilled (without_blanks bs) → EndsFilled bs) → EndsFilled (cond v (without_blanks bs) (b ∷ bs)) → EndsFilled (b ∷ bs)
    by true later h = ends_within (b ∷ []) bs (later h)
    by false later h = h

all_bytes : (text : List ℕ) (ts : List Token) → IsMatched text ts → list_all is_hours_byte text ≡ true
all_bytes text [] h = absurd h
all_bytes text (t ∷ []) h =
    let f = token_front text t [] h in
    ap (list_all is_hours_byte) f.1 ∙ list_all-append is_hours_byte f.0 [] ∙ rw (filled_bytes f.0 (token_filled f.2)) refl
all_bytes text (t ∷ u ∷ ts) h =
    let f = token_front text t h.0 h.1 in
    let later = bytes_blanks h.0 (all_bytes (without_blanks h.0) (u ∷ ts) h.2) in
    ap (list_all is_hours_byte) f.1 ∙ list_all-append is_hours_byte f.0 h.0 ∙ rw (filled_bytes f.0 (token_filled f.2), later) refl

first_filled : (text : List ℕ) (t : Token) (rest : List ℕ) → token_at text ≡ Some (t, rest) → StartsFilled text
first_filled text t rest h =
    let f = token_front text t rest h in
    let b = some_byte f.2 in
    subst StartsFilled (sym f.1) (starts_with f.0 rest b.0 b.1 b.2 (token_filled f.2))

starts_text : (text : List ℕ) (ts : List Token) → IsMatched text ts → StartsFilled text
starts_text text [] h = absurd h
starts_text text (t ∷ []) h = first_filled text t [] h
starts_text text (t ∷ u ∷ ts) h = first_filled text t h.0 h.1

ends_text : (text : List ℕ) (ts : List Token) → IsMatched text ts → EndsFilled text
ends_text text [] h = absurd h
ends_text text (t ∷ []) h =
    let f = token_front text t [] h in
    let b = some_byte f.2 in
    let filled : AllFilled (b.0 ∷ b.1) = subst AllFilled b.2 (token_filled f.2) in
    subst EndsFilled (sym (f.1 ∙ end_nil f.0 ∙ b.2)) (ends_filled b.0 b.1 filled)
  where
    end_nil : (bs : List ℕ) → bs ++ [] ≡ bs
    end_nil [] = refl
    end_nil (b ∷ bs) = ap (λ (cs : List ℕ). b ∷ cs) (end_nil bs)
ends_text text (t ∷ u ∷ ts) h =
    let f = token_front text t h.0 h.1 in
    subst EndsFilled (sym f.1) (ends_within f.0 h.0 (ends_blanks h.0 (ends_text (without_blanks h.0) (u ∷ ts) h.2)))

-- a blank in a text stands behind its first token
behind_token : (w rest front more : List ℕ) (a : ℕ) → AllFilled w → is_blank a ≡ true → w ++ rest ≡ front ++ a ∷ more
    → (later : List ℕ) × (rest ≡ later ++ a ∷ more)
behind_token [] rest front more a h blank e = (front, e)
behind_token (x ∷ xs) rest [] more a h blank e =
    let same : x ≡ a = cc in
    let clash : true ≡ false = sym blank ∙ sym (ap is_blank same) ∙ h.0 in
    absurd cc
behind_token (x ∷ xs) rest (f ∷ fs) more a h blank e = let later : xs ++ rest ≡ fs ++ a ∷ more = cc in behind_token xs rest fs more a h.2 blank later

-- the blanks in front of a blank that stands somewhere
past_blanks : (front more : List ℕ) (a : ℕ) → is_blank a ≡ true
    → (without_blanks (front ++ a ∷ more) ≡ without_blanks more) ⊎ ((later : List ℕ) × (without_blanks (front ++ a ∷ more) ≡ later ++ a ∷ more))
past_blanks [] more a h = inl (ap (λ v. cond v (without_blanks more) (a ∷ more)) h)
past_blanks (f ∷ fs) more a h = by (is_blank f) (past_blanks fs more a h)
  where
    by : (v : Bool) → (without_blanks (fs ++ a ∷ more) ≡ without_blanks more)
        ⊎ ((later : List ℕ) × (without_blanks (fs ++ a ∷ more) ≡ later ++ a ∷ more))
        → (cond v (without_blanks (fs ++ a ∷ more)) (f ∷ (fs ++ a ∷ more)) ≡ without_blanks more)
        ⊎ ((later : List ℕ) × (cond v (without_blanks (fs ++ a ∷ more)) (f ∷ (fs ++ a ∷ more)) ≡ later ++ a ∷ more))
    by true p = p
    by false p = inr (f ∷ fs, refl)

blank_calm : (b : ℕ) (rest : List ℕ) → is_blank b ≡ true → Calm (b ∷ rest)
blank_calm b rest h =
    let letter : is_letter b ≡ false = grind (arith, common_steps) in
    let colon : (b == 58) ≡ false = grind (arith, common_steps) in
    let stroke : (b == 47) ≡ false = grind (arith, common_steps) in
    let digit : is_digit b ≡ false = grind (arith, common_steps) in
    (letter, colon, stroke, digit)

-- a word and something calm behind it are cut after the word
word_cut : (b : ℕ) (bs rest : List ℕ) (t : Token) (ts : List Token) → AreLetters (b ∷ bs) → Calm rest
    → IsMatched ((b ∷ bs) ++ rest) (t ∷ ts) → word_token (b ∷ bs) ≡ t
word_cut b bs rest t [] h calm m = (some_pair_parts (word_token (b ∷ bs)) t rest []
    (sym (word_first (b ∷ bs) b bs rest (word_token (b ∷ bs)) refl h refl calm) ∙ m)).0
word_cut b bs rest t (u ∷ us) h calm m = (some_pair_parts (word_token (b ∷ bs)) t rest m.0
    (sym (word_first (b ∷ bs) b bs rest (word_token (b ∷ bs)) refl h refl calm) ∙ m.1)).0

spells_known : (t : Token) → Spells t → t ≢ Unknown
spells_known t h e = subst Spells e h

front_some : (ts us : List ℕ) (u : ℕ) → [] ≢ ts ++ u ∷ us
front_some [] us u e = absurd cc
front_some (t ∷ ts) us u e = absurd cc

module _ (before b : ℕ) (bs : List ℕ) (behind : ℕ) (rest : List ℕ) (blank : is_blank before ≡ true)
    (letters : AreLetters (b ∷ bs)) (gap : is_blank behind ≡ true) where
  abbrev word_on : List ℕ
  word_on = (b ∷ bs) ++ behind ∷ rest

  word_starts : without_blanks word_on ≡ word_on
  word_starts = ap (λ v. cond v (without_blanks (bs ++ behind ∷ rest)) word_on) (letter_no_blank b letters.0)

  words_known : (text : List ℕ) (ts : List Token) (front : List ℕ) → IsMatched text ts → AllSpell ts
      → text ≡ front ++ before ∷ word_on → word_token (b ∷ bs) ≢ Unknown
  words_known text [] front h all e = absurd h
  words_known text (t ∷ []) front h all e =
      let f = token_front text t [] h in
      let p = behind_token f.0 [] front word_on before (token_filled f.2) blank (sym f.1 ∙ e) in
      absurd (front_some p.0 word_on before p.1)
  words_known text (t ∷ u ∷ ts) front h all e =
      let f = token_front text t h.0 h.1 in
      let p = behind_token f.0 h.0 front word_on before (token_filled f.2) blank (sym f.1 ∙ e) in
      let cut : IsMatched (without_blanks (p.0 ++ before ∷ word_on)) (u ∷ ts) =
      subst (λ (r : List ℕ). IsMatched (without_blanks r) (u ∷ ts)) p.1 h.2 in
      elim (past_blanks p.0 word_on before blank) [
        | inl same ↦
            let here : IsMatched word_on (u ∷ ts) = subst (λ (r : List ℕ). IsMatched r (u ∷ ts)) (same ∙ word_starts) cut in
            let means = word_cut b bs (behind ∷ rest) u ts letters (blank_calm behind rest gap) here in
            subst (λ (v : Token). v ≢ Unknown) (sym means) (spells_known u all.1.0)
        | inr q ↦ words_known (without_blanks (p.0 ++ before ∷ word_on)) (u ∷ ts) q.0 cut all.1 q.1
      ]

-- a word of small letters is none of the words that begin with a capital
abbrev AllCapital : List (List ℕ × Token) → Type 0
AllCapital [] = Unit {0}
AllCapital (row ∷ rows) = ((b : ℕ) (bs : List ℕ) → 97 ≤ b → bytes_eq (b ∷ bs) row.0 ≡ false) × AllCapital rows

no_row : (rows : List (List ℕ × Token)) (other : Token) (b : ℕ) (bs : List ℕ) → 97 ≤ b → AllCapital rows → token_in rows other (b ∷ bs) ≡ other
no_row [] other b bs h all = refl
no_row (row ∷ rows) other b bs h all = rw (all.0 b bs h) (no_row rows other b bs h all.1)

apart : (b c : ℕ) (bs cs : List ℕ) → 97 ≤ b → c < 97 → bytes_eq (b ∷ bs) (c ∷ cs) ≡ false
apart b c bs cs h k = let differ : (b == c) ≡ false = grind (arith, common_steps) in rw differ refl

-- a word begins with a capital, or with no letter at all
starts_low : List ℕ → Bool
starts_low [] = true
starts_low (c ∷ cs) = ltb c 97

not_low : (w : List ℕ) → starts_low w ≡ true → (b : ℕ) (bs : List ℕ) → 97 ≤ b → bytes_eq (b ∷ bs) w ≡ false
unfolding starts_low
not_low [] low b bs h = refl
not_low (c ∷ cs) low b bs h = apart b c bs cs h (ltb-true c 97 low)

all_capital : (rows : List (List ℕ × Token)) → list_all (λ (row : List ℕ × Token). starts_low row.0) rows ≡ true → AllCapital rows
all_capital [] low = tt
all_capital (row ∷ rows) low =
    let parts = and_parts (starts_low row.0) (list_all (λ (other : List ℕ × Token). starts_low other.0) rows) low in
    (not_low row.0 parts.0, all_capital rows parts.1)

small_word : (b : ℕ) (bs : List ℕ) → 97 ≤ b → word_token (b ∷ bs) ≡ other_token (b ∷ bs)
unfolding word_token weekday_token starts_low
small_word b bs h = no_row months (token_in weekdays (other_token (b ∷ bs)) (b ∷ bs)) b bs h (all_capital months refl)
    ∙ no_row weekdays (other_token (b ∷ bs)) b bs h (all_capital weekdays refl)

small_other : (b : ℕ) (bs : List ℕ) → 97 ≤ b → other_token (b ∷ bs) ≢ Unknown → other_token (b ∷ bs) ≢ Open
    → (b ∷ bs ≡ codes "off") ⊎ (b ∷ bs ≡ codes "closed")
unfolding other_token
small_other b bs h known closed = by (bytes_eq (b ∷ bs) (codes "off")) (bytes_eq (b ∷ bs) (codes "closed"))
    (bytes_eq (b ∷ bs) (codes "open")) refl refl refl
  where
    by : (u v w : Bool) → bytes_eq (b ∷ bs) (codes "off") ≡ u → bytes_eq (b ∷ bs) (codes "closed") ≡ v
        → bytes_eq (b ∷ bs) (codes "open") ≡ w → (b ∷ bs ≡ codes "off") ⊎ (b ∷ bs ≡ codes "closed")
    by true v w e f g = inl ((bytes_eq-Decides (b ∷ bs) (codes "off")).0 e)
    by false true w e f g = inr ((bytes_eq-Decides (b ∷ bs) (codes "closed")).0 f)
    by false false true e f g = absurd (closed
        (rw (apart b 80 bs (codes "H") h (omega arith), apart b 83 bs (codes "H") h (omega arith), e, f, g) refl))
    by false false false e f g = absurd (known
        (rw (apart b 80 bs (codes "H") h (omega arith), apart b 83 bs (codes "H") h (omega arith), e, f, g) refl))

no_open : (rs : List HoursRule) → IsRules (Open ∷ []) rs → ⊥
unfolding read_rules read_rule
no_open rs h = let e : read_rules (Open ∷ []) ≡ Some rs = rules_again (Open ∷ []) rs h in cc

-- a text that is one word has its token alone
one_word : (b : ℕ) (bs : List ℕ) (ts : List Token) → AreLetters (b ∷ bs) → IsMatched (b ∷ bs) ts → ts ≡ word_token (b ∷ bs) ∷ []
one_word b bs [] h m = absurd m
one_word b bs (t ∷ []) h m =
    let here : IsMatched ((b ∷ bs) ++ []) (t ∷ []) = subst (λ (text : List ℕ). IsMatched text (t ∷ [])) (sym (append-nil (b ∷ bs))) m in
    ap (λ (u : Token). u ∷ []) (sym (word_cut b bs [] t [] h tt here))
one_word b bs (t ∷ u ∷ us) h m =
    let found : token_at (b ∷ bs) ≡ Some (word_token (b ∷ bs), []) = ap token_at (sym (append-nil (b ∷ bs)))
    ∙ word_first (b ∷ bs) b bs [] (word_token (b ∷ bs)) refl h refl tt in
    let p = some_pair_parts t (word_token (b ∷ bs)) m.0 [] (sym m.1 ∙ found) in
    absurd (no_cut (u ∷ us) (subst (λ (r : List ℕ). IsMatched (without_blanks r) (u ∷ us)) p.1 m.2))

lone_word : (b : ℕ) (bs : List ℕ) (ts : List Token) (rs : List HoursRule) → 97 ≤ b → AreLetters (b ∷ bs)
    → IsMatched (b ∷ bs) ts → IsRules ts rs → (b ∷ bs ≡ codes "off") ⊎ (b ∷ bs ≡ codes "closed")
lone_word b bs ts rs small h m rules =
    let alone : ts ≡ other_token (b ∷ bs) ∷ [] = one_word b bs ts h m ∙ ap (λ (u : Token). u ∷ []) (small_word b bs small) in
    let here : IsRules (other_token (b ∷ bs) ∷ []) rs = subst (λ (us : List Token). IsRules us rs) alone rules in
    let known : other_token (b ∷ bs) ≢ Unknown = spells_known (other_token (b ∷ bs)) (rules_spell (other_token (b ∷ bs) ∷ []) rs here).0 in
    small_other b bs small known (λ e. no_open rs (subst (λ (u : Token). IsRules (u ∷ []) rs) e here))

-- A text of hours can stand within another.
pub hours_plain : (text : List ℕ) (rs : List HoursRule) → IsHours text rs → IsPlain text
hours_plain text rs h =
    let m = match_of text h.0 h.1 in
    record {
      bytes = all_bytes text h.0 m;
      starts = starts_text text h.0 m;
      ends = ends_text text h.0 m;
      words = λ front rest before b bs behind blank letters gap e.
          words_known before b bs behind rest blank letters gap text h.0 front m (rules_spell h.0 rs h.2) e;
      lone = λ b bs e small letters.
          let here : IsMatched (b ∷ bs) h.0 = subst (λ (t : List ℕ). IsMatched t h.0) e m in
          elim (lone_word b bs h.0 rs small letters here h.2) [ inl off ↦ inl (e ∙ off) | inr closed ↦ inr (e ∙ closed) ];
    }
