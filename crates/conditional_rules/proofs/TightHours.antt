-- Texts of hours within a condition.
use Rattle.std.proofs.Common.{◌≡◌, ℕ, ◌+◌, ◌/◌, ◌%◌, ◌≤◌, Bool, true, false, cond, List, [], ◌∷◌, ◌++◌, refl, sym, ap}
use Rattle.std.proofs.Common.{◌∙◌, arith, inl, inr}
use Rattle.std.specs.Prelude.{◌==◌, ◌&&◌, ◌||◌, not, codes}
use Rattle.std.specs.List.{list_all}
use Rattle.std.proofs.lemmas.List.{append_assoc}
use Rattle.std.proofs.lemmas.Bool.{and_parts}
use Rattle.std.proofs.lemmas.Grind.{common_steps}
use Rattle.calendar_days.specs.declared.weekday.Weekday.{Weekday}
use Rattle.calendar_days.specs.declared.weekday.Weekday.TheVariants.{Mo, Tu, We, Th, Fr, Sa, Su}
use Rattle.calendar_days.specs.Texts.{two_digits}
use Rattle.opening_hours.specs.declared.tokens.Token.{Token}
use Rattle.opening_hours.specs.declared.tokens.Token.TheVariants.{Month, Day, Public, School, Off, Open, Always, Unknown}
use Rattle.opening_hours.specs.declared.tokens.Token.TheVariants.{Time, Number, Dash, Comma, Semicolon, Colon, LeftBracket, RightBracket}
use Rattle.opening_hours.specs.declared.tokens.Digits.TheVariants as digits
use Rattle.opening_hours.specs.CanonicalText.{month_text, weekday_text, lexeme, is_tight, is_closing, blank_between, spell}
use Rattle.opening_hours.proofs.Spelled.{Spells, AllSpell}
use Rattle.opening_hours.specs.declared.types.HoursRule.{HoursRule}
use Rattle.opening_hours.specs.CanonicalTokens.{hours_tokens, hours_text}
use Rattle.opening_hours.specs.Hours.{IsHours}
use Rattle.opening_hours.specs.PlainText.{is_hours_byte, IsPlain}
use Rattle.opening_hours.specs.Tokens.{AreLetters, is_letter}
use Rattle.opening_hours.proofs.Spelled.{rules_spell}
use Rattle.opening_hours.proofs.Canon.{rules_canon}
use Rattle.opening_hours.proofs.PlainTexts.{hours_plain}
use Rattle.opening_hours.proofs.Whole.{print_read}
use Rattle.vehicle_classes.specs.Vehicles.{is_flag_byte}
use Rattle.conditional_rules.specs.Accesses.{is_among}
use Rattle.conditional_rules.specs.Conditions.{has_sign, is_small_letter, reserved_words, is_flag, IsPart}
use Rattle.conditional_rules.specs.Conditions as conditions
use Rattle.conditional_rules.specs.declared.conditional.Part.TheVariants.{Times}
use Rattle.route_base.specs.Forms.{is_blank}
use Rattle.conditional_rules.specs.Cutting.{is_and, starts_with_and, first_and}
use Rattle.conditional_rules.proofs.Over.{both_over}
use Rattle.conditional_rules.proofs.Tight.{IsCompact, IsDark, PassesOver, step, dark_passes, none_of}

-- a digit is no blank
digit_dark : (n : ℕ) → is_blank (48 + n % 10) ≡ false
digit_dark n = grind (arith, common_steps)

one_of : (P : List ℕ → Type 0) (v : Bool) {a b : List ℕ} → P a → P b → P (cond v a b)
one_of P true h k = h
one_of P false h k = k

month_dark : (m : ℕ) → IsDark (month_text m)
unfolding month_text
month_dark m =
    one_of IsDark (m == 1) refl (one_of IsDark (m == 2) refl (one_of IsDark (m == 3) refl (one_of IsDark (m == 4) refl
    (one_of IsDark (m == 5) refl (one_of IsDark (m == 6) refl (one_of IsDark (m == 7) refl (one_of IsDark (m == 8) refl
    (one_of IsDark (m == 9) refl (one_of IsDark (m == 10) refl (one_of IsDark (m == 11) refl refl))))))))))

day_dark : (d : Weekday) → IsDark (weekday_text d)
day_dark Mo = refl
day_dark Tu = refl
day_dark We = refl
day_dark Th = refl
day_dark Fr = refl
day_dark Sa = refl
day_dark Su = refl

token_dark : (t : Token) → IsDark (lexeme t)
token_dark (Month m) = month_dark m
token_dark (Day d) = day_dark d
token_dark (Time a b) = rw (digit_dark (a / 10), digit_dark a, digit_dark (b / 10), digit_dark b) refl
token_dark (Number n digits.One) = rw (digit_dark n) refl
token_dark (Number n digits.Two) = rw (digit_dark (n / 10), digit_dark n) refl
token_dark Unknown = refl
token_dark Public = refl
token_dark School = refl
token_dark Off = refl
token_dark Open = refl
token_dark Always = refl
token_dark Dash = refl
token_dark Comma = refl
token_dark Semicolon = refl
token_dark Colon = refl
token_dark LeftBracket = refl
token_dark RightBracket = refl

-- a byte that is no A
other_first : (b : ℕ) (bs : List ℕ) → (b == 65) ≡ false → (b == 97) ≡ false → starts_with_and (32 ∷ b ∷ bs) ≡ false
other_first b [] h k = refl
other_first b (c ∷ []) h k = refl
other_first b (c ∷ d ∷ []) h k = refl
other_first b (c ∷ d ∷ e ∷ bs) h k = rw (h, k) refl

-- three bytes that are no word AND
three : (b c d : ℕ) (bs : List ℕ) → is_and (b ∷ c ∷ d ∷ []) ≡ false → starts_with_and (32 ∷ b ∷ c ∷ d ∷ bs) ≡ false
three b c d [] h = refl
three b c d (e ∷ bs) h = rw h refl

month_other : (m : ℕ) (more : List ℕ) → starts_with_and (32 ∷ (month_text m ++ more)) ≡ false
unfolding month_text
month_other m more =
    one_of P (m == 1) (three 74 97 110 more refl) (one_of P (m == 2) (three 70 101 98 more refl)
    (one_of P (m == 3) (three 77 97 114 more refl) (one_of P (m == 4) (three 65 112 114 more refl)
    (one_of P (m == 5) (three 77 97 121 more refl) (one_of P (m == 6) (three 74 117 110 more refl)
    (one_of P (m == 7) (three 74 117 108 more refl) (one_of P (m == 8) (three 65 117 103 more refl)
    (one_of P (m == 9) (three 83 101 112 more refl) (one_of P (m == 10) (three 79 99 116 more refl)
    (one_of P (m == 11) (three 78 111 118 more refl) (three 68 101 99 more refl)))))))))))
  where
    P : List ℕ → Type 0
    P w = starts_with_and (32 ∷ (w ++ more)) ≡ false

day_other : (d : Weekday) (more : List ℕ) → starts_with_and (32 ∷ (weekday_text d ++ more)) ≡ false
day_other Mo more = other_first 77 (111 ∷ more) refl refl
day_other Tu more = other_first 84 (117 ∷ more) refl refl
day_other We more = other_first 87 (101 ∷ more) refl refl
day_other Th more = other_first 84 (104 ∷ more) refl refl
day_other Fr more = other_first 70 (114 ∷ more) refl refl
day_other Sa more = other_first 83 (97 ∷ more) refl refl
day_other Su more = other_first 83 (117 ∷ more) refl refl

digit_other : (n : ℕ) (more : List ℕ) → starts_with_and (32 ∷ (48 + n % 10) ∷ more) ≡ false
digit_other n more =
    let small : n % 10 ≤ 9 = grind (arith, common_steps) in
    other_first (48 + n % 10) more (grind (arith, common_steps)) (grind (arith, common_steps))

-- a token begins no word AND
token_other : (t : Token) (more : List ℕ) → Spells t → starts_with_and (32 ∷ (lexeme t ++ more)) ≡ false
token_other (Month m) more h = month_other m more
token_other (Day d) more h = day_other d more
token_other Unknown more h = absurd h
token_other (Time a b) more h = digit_other (a / 10) ((48 + a % 10) ∷ (codes ":" ++ (two_digits b ++ more)))
token_other (Number n digits.One) more h = digit_other n more
token_other (Number n digits.Two) more h = digit_other (n / 10) ((48 + n % 10) ∷ more)
token_other Public more h = other_first 80 (72 ∷ more) refl refl
token_other School more h = other_first 83 (72 ∷ more) refl refl
token_other Off more h = other_first 111 (102 ∷ 102 ∷ more) refl refl
token_other Open more h = other_first 111 (112 ∷ 101 ∷ 110 ∷ more) refl refl
token_other Always more h = other_first 50 (52 ∷ 47 ∷ 55 ∷ more) refl refl
token_other Dash more h = other_first 45 more refl refl
token_other Comma more h = other_first 44 more refl refl
token_other Semicolon more h = other_first 59 more refl refl
token_other Colon more h = other_first 58 more refl refl
token_other LeftBracket more h = other_first 91 more refl refl
token_other RightBracket more h = other_first 93 more refl refl

spell_other : (t : Token) (ts : List Token) (more : List ℕ) → Spells t → starts_with_and (32 ∷ (spell (t ∷ ts) ++ more)) ≡ false
unfolding spell
spell_other t [] more h = token_other t more h
spell_other t (u ∷ us) more h =
    let rest = blank_between t u ++ spell (u ∷ us) in
    ap (λ (bs : List ℕ). starts_with_and (32 ∷ bs)) (append_assoc (lexeme t) rest more) ∙ token_other t (rest ++ more) h

-- a blank or none in front of a token
gap_passes : (b : Bool) (text : List ℕ) → starts_with_and (32 ∷ text) ≡ false → PassesOver (cond b [] (32 ∷ [])) text
gap_passes true text h = dark_passes [] text refl
gap_passes false text h = step 32 text h

spell_passes : (ts : List Token) (more : List ℕ) → AllSpell ts → PassesOver (spell ts) more
unfolding spell
spell_passes [] more h = dark_passes [] more refl
spell_passes (t ∷ []) more h = dark_passes (lexeme t) more (token_dark t)
spell_passes (t ∷ u ∷ us) more h =
    let gap = blank_between t u in
    let later = spell (u ∷ us) in
    let passed = gap_passes (is_tight t || (is_tight u || is_closing u)) (later ++ more) (spell_other u us more h.1.0) in
    let first = dark_passes (lexeme t) ((gap ++ later) ++ more) (token_dark t) in
    let behind = both_over first_and first_and first_and gap later more passed (spell_passes (u ∷ us) more h.1) in
    both_over first_and first_and first_and (lexeme t) (gap ++ later) more first behind

sign_no_hours : (b : ℕ) → is_hours_byte b ≡ true → (b == 60 || (b == 61 || b == 62)) ≡ false
sign_no_hours b h = grind (arith, common_steps)

parenthesis_no_hours : (b : ℕ) → is_hours_byte b ≡ true → (b == 40 || b == 41) ≡ false
parenthesis_no_hours b h = grind (arith, common_steps)

hours_no_sign : (text : List ℕ) → IsPlain text → has_sign text ≡ false
hours_no_sign text h = none_of is_hours_byte (λ b. b == 60 || (b == 61 || b == 62)) sign_no_hours text h.bytes

-- the letters of a flag that is made of bytes of hours
flag_letters : (bs : List ℕ) → list_all is_hours_byte bs ≡ true → list_all is_flag_byte bs ≡ true → AreLetters bs
flag_letters [] h k = tt
flag_letters (b ∷ bs) h k =
    let hours = and_parts (is_hours_byte b) (list_all is_hours_byte bs) h in
    let flag = and_parts (is_flag_byte b) (list_all is_flag_byte bs) k in
    (letter hours.0 flag.0, flag_letters bs hours.1 flag.1)
  where
    letter : is_hours_byte b ≡ true → is_flag_byte b ≡ true → is_letter b ≡ true
    letter h k = grind (arith, common_steps)

small_letter : (b : ℕ) → is_small_letter b ≡ true → (97 ≤ b) × (is_flag_byte b ≡ true)
small_letter b h = (grind (arith, common_steps), rw h refl)

-- hours that are one word are off or closed, and no flag
hours_no_flag : (text : List ℕ) → IsPlain text → is_flag text ≡ false
unfolding is_flag
hours_no_flag [] h = refl
hours_no_flag (b ∷ bs) h =
    by (is_small_letter b) (list_all is_flag_byte bs) (is_among reserved_words (b ∷ bs)) refl refl refl
  where
    by : (u v w : Bool) → is_small_letter b ≡ u → list_all is_flag_byte bs ≡ v → is_among reserved_words (b ∷ bs) ≡ w
        → (u && (v && not w)) ≡ false
    by false v w e f g = refl
    by true false w e f g = refl
    by true true true e f g = refl
    by true true false e f g =
        let small = small_letter b e in
        let letters = flag_letters (b ∷ bs) h.bytes (rw (small.1, f) refl) in
        elim (h.lone b bs refl small.0 letters) [
          | inl off ↦ let known : true ≡ false = ap (is_among reserved_words) (sym off) ∙ g in absurd cc
          | inr closed ↦ let known : true ≡ false = ap (is_among reserved_words) (sym closed) ∙ g in absurd cc
        ]

tokens_tight : (ts : List Token) → AllSpell ts → IsPlain (spell ts) → IsCompact (spell ts)
unfolding spell
tokens_tight [] h plain = absurd plain.starts
tokens_tight (t ∷ ts) h plain = record {
  starts = plain.starts;
  ends = plain.ends;
  plain = none_of is_hours_byte (λ b. b == 40 || b == 41) parenthesis_no_hours (spell (t ∷ ts)) plain.bytes;
  behind = λ rest gap. spell_other t ts rest h.0;
  passes = λ rest gap. spell_passes (t ∷ ts) rest h;
}

-- The canonical text of hours is tight, and it is a part.
pub hours_again : (text : List ℕ) (rules : List HoursRule) → IsHours text rules
    → IsCompact (hours_text rules) × IsPart (hours_text rules) (Times rules)
hours_again text rules h =
    let read = print_read rules (text, h) in
    let plain = hours_plain (hours_text rules) rules read in
    let spelled = rules_spell (hours_tokens rules) rules (rules_canon h.0 rules h.2) in (
      tokens_tight (hours_tokens rules) spelled plain,
      conditions.timed (hours_no_sign (hours_text rules) plain) (hours_no_flag (hours_text rules) plain) read,
    )
