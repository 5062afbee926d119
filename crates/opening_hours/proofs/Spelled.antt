-- Tokens that are spelled are cut into the same tokens.
use Rattle.std.proofs.Common.{◌≡◌, ◌≢◌, ℕ, zero, suc, ◌+◌, ◌/◌, ◌%◌, ◌<◌, ◌≤◌, Bool, true, false, cond, List, [], ◌∷◌, ◌++◌}
use Rattle.std.proofs.Common.{length, Some, None, refl, sym, ap, subst, ◌∙◌, arith, append-nil, eq-eqb}
use Rattle.std.specs.Prelude.{◌==◌, ◌&&◌, ◌||◌, codes}
use Rattle.std.specs.List.{take_while}
use Rattle.std.proofs.lemmas.Bool.{le-leb}
use Rattle.std.proofs.lemmas.Grind.{common_steps}
use Rattle.std.proofs.lemmas.List.Sums.{take_while-cons}
use Rattle.std.proofs.lemmas.List.{drop_at}
use Rattle.calendar_days.specs.declared.weekday.Weekday.{Weekday}
use Rattle.calendar_days.specs.declared.weekday.Weekday.TheVariants.{Mo, Tu, We, Th, Fr, Sa, Su}
use Rattle.opening_hours.specs.declared.tokens.Token.{Token}
use Rattle.opening_hours.specs.declared.tokens.Token.TheVariants.{Month, Day, Public, School, Off, Open, Always, Unknown}
use Rattle.opening_hours.specs.declared.tokens.Token.TheVariants.{Time, Number, Dash, Comma, Semicolon, Colon, LeftBracket, RightBracket}
use Rattle.opening_hours.specs.declared.tokens.Digits.TheVariants as digits
use Rattle.opening_hours.specs.declared.types.DateSpan.{DateSpan}
use Rattle.opening_hours.specs.declared.types.DayItem.{DayItem}
use Rattle.opening_hours.specs.declared.types.TimeSpan.{TimeSpan}
use Rattle.opening_hours.specs.declared.types.LongSpan.{LongSpan}
use Rattle.opening_hours.specs.declared.types.HoursRule.{HoursRule}
use Rattle.opening_hours.specs.Tokens.{is_digit, is_letter, one_digit, number_of_two, other_token, weekday_token, word_token, AreLetters, without_blanks}
use Rattle.route_base.specs.Forms.{is_blank}
use Rattle.opening_hours.specs.Inside.Tokenizer.{word_of, word_at, mark_at, token_at, IsMatched}
use Rattle.opening_hours.specs.CanonicalText.{month_text, weekday_text, lexeme, is_tight, is_closing, blank_between, spell}
use Rattle.opening_hours.specs.CanonicalTokens.{listed, date_tokens, item_tokens, span_tokens, long_tokens, rule_tokens, hours_tokens}
use Rattle.calendar_days.specs.Weekdays.{index_of}
use Rattle.opening_hours.specs.Grammar.{IsMonth, IsTime, IsDate, IsItem, IsSpan, IsLong, IsOpens, IsDates, IsDays, IsSpans, IsRule, IsRules, Joined}
use Rattle.opening_hours.specs.Grammar as grammar

-- the bytes that may follow a word or a number
abbrev pub Calm : List ℕ → Type 0
Calm [] = Unit {0}
Calm (b ∷ bs) = (is_letter b ≡ false) × ((b == 58) ≡ false) × ((b == 47) ≡ false) × (is_digit b ≡ false)

letters_front : (w rest : List ℕ) → AreLetters w → Calm rest → take_while is_letter (w ++ rest) ≡ w
letters_front [] [] h c = refl
letters_front [] (b ∷ bs) h c = take_while-cons is_letter b bs ∙ ap (λ v. cond v (b ∷ take_while is_letter bs) []) c.0
letters_front (b ∷ bs) rest h c = take_while-cons is_letter b (bs ++ rest)
    ∙ ap (λ v. cond v (b ∷ take_while is_letter (bs ++ rest)) []) h.0 ∙ ap (λ (ws : List ℕ). b ∷ ws) (letters_front bs rest h.1 c)

pub word_first : (w : List ℕ) (b : ℕ) (bs rest : List ℕ) (t : Token) → w ≡ b ∷ bs → AreLetters w → word_token w ≡ t
    → Calm rest → token_at (w ++ rest) ≡ Some (t, rest)
unfolding token_at word_at
word_first w b bs rest t is h means c =
    let found : word_of w rest ≡ Some (t, rest) =
    subst (λ (v : List ℕ). word_of v rest ≡ Some (t, rest)) (sym is) (ap (λ (u : Token). Some (u, rest)) (ap word_token (sym is) ∙ means)) in
    let front = letters_front w rest h c in
    rw (front, drop_at w rest (length w) refl, found) refl

-- a text that doesn't begin with a letter has no word in front
pub no_word : (b : ℕ) (bs : List ℕ) → is_letter b ≡ false → word_at (b ∷ bs) ≡ None
unfolding word_at
no_word b bs h = rw (take_while-cons is_letter b bs, h) refl

pub time_first : (a b d e : ℕ) (rest : List ℕ) → is_letter a ≡ false → is_digit a ≡ true → is_digit b ≡ true
    → is_digit d ≡ true → is_digit e ≡ true → token_at (a ∷ b ∷ 58 ∷ d ∷ e ∷ rest) ≡ Some (Time (number_of_two a b) (number_of_two d e), rest)
unfolding token_at
time_first a b d e rest n ha hb hd he = rw (no_word a (b ∷ 58 ∷ d ∷ e ∷ rest) n, ha, hb, hd, he) refl

both_false : (a b : Bool) → a && (b && false) ≡ false
both_false true true = refl
both_false true false = refl
both_false false b = refl

number_first : (a b : ℕ) (rest : List ℕ) → is_letter a ≡ false → is_digit a ≡ true → is_digit b ≡ true → (b == 58) ≡ false
    → Calm rest → token_at (a ∷ b ∷ rest) ≡ Some (Number (number_of_two a b) digits.Two, rest)
unfolding token_at
number_first a b [] n ha hb colon c = rw (no_word a (b ∷ []) n, ha, hb) refl
number_first a b (x ∷ []) n ha hb colon c = rw (no_word a (b ∷ x ∷ []) n, ha, hb) refl
number_first a b (x ∷ y ∷ []) n ha hb colon c = rw (no_word a (b ∷ x ∷ y ∷ []) n, ha, hb, colon, c.2, both_false (a == 50) (b == 52)) refl
number_first a b (x ∷ y ∷ z ∷ rest) n ha hb colon c =
    rw (no_word a (b ∷ x ∷ y ∷ z ∷ rest) n, ha, hb, colon, c.1, c.2, both_false (a == 50) (b == 52)) refl

no_four : (b : ℕ) → is_digit b ≡ false → (b == 52) ≡ false
no_four b h = grind (arith, common_steps)

pub end_false : (a : Bool) → a && false ≡ false
end_false true = refl
end_false false = refl

-- one digit, and something calm behind it
digit_first : (a : ℕ) (rest : List ℕ) → is_letter a ≡ false → is_digit a ≡ true → Calm rest
    → token_at (a ∷ rest) ≡ Some (Number (one_digit a) digits.One, rest)
unfolding token_at
digit_first a [] n ha c = rw (no_word a [] n, ha) refl
digit_first a (x ∷ []) n ha c = rw (no_word a (x ∷ []) n, ha, c.3) refl
digit_first a (x ∷ y ∷ []) n ha c = rw (no_word a (x ∷ y ∷ []) n, ha, c.3) refl
digit_first a (x ∷ y ∷ z ∷ []) n ha c =
    rw (no_word a (x ∷ y ∷ z ∷ []) n, ha, c.1, c.3, no_four x c.3, end_false (a == 50)) refl
digit_first a (x ∷ y ∷ z ∷ w ∷ rest) n ha c =
    rw (no_word a (x ∷ y ∷ z ∷ w ∷ rest) n, ha, c.1, c.3, no_four x c.3, end_false (a == 50)) refl

pub mark_first : (a : ℕ) (rest : List ℕ) (t : Token) → is_letter a ≡ false → is_digit a ≡ false → (a == 50) ≡ false
    → mark_at (a ∷ rest) ≡ Some (t, rest) → token_at (a ∷ rest) ≡ Some (t, rest)
unfolding token_at
mark_first a [] t n h two m = rw (no_word a [] n, h, m) refl
mark_first a (b ∷ []) t n h two m = rw (no_word a (b ∷ []) n, h, m) refl
mark_first a (b ∷ c ∷ []) t n h two m = rw (no_word a (b ∷ c ∷ []) n, h, m) refl
mark_first a (b ∷ c ∷ d ∷ []) t n h two m = rw (no_word a (b ∷ c ∷ d ∷ []) n, h, two, m) refl
mark_first a (b ∷ c ∷ d ∷ e ∷ rest) t n h two m = rw (no_word a (b ∷ c ∷ d ∷ e ∷ rest) n, h, two, m) refl

pub always_first : (rest : List ℕ) → token_at (50 ∷ 52 ∷ 47 ∷ 55 ∷ rest) ≡ Some (Always, rest)
unfolding token_at
always_first [] = rw (no_word 50 (52 ∷ 47 ∷ 55 ∷ []) refl) refl
always_first (b ∷ bs) = rw (no_word 50 (52 ∷ 47 ∷ 55 ∷ b ∷ bs) refl) refl

digit_is : (n : ℕ) → n < 10 → is_digit (48 + n) ≡ true
digit_is n h = let low : 48 ≤ 48 + n = omega arith in let high : 48 + n ≤ 57 = omega arith in
    rw (le-leb 48 (48 + n) low, le-leb (48 + n) 57 high) refl

digit_no_letter : (n : ℕ) → n < 10 → is_letter (48 + n) ≡ false
digit_no_letter n h = grind (arith, common_steps)

digit_no_colon : (n : ℕ) → n < 10 → (48 + n == 58) ≡ false
digit_no_colon n h = grind (arith, common_steps)

two_again : (n : ℕ) → n ≤ 99 → number_of_two (48 + n / 10 % 10) (48 + n % 10) ≡ n
two_again n h = omega arith

one_again : (n : ℕ) → n ≤ 9 → one_digit (48 + n % 10) ≡ n
one_again n h = omega arith

tens : (n : ℕ) → n / 10 % 10 < 10
tens n = omega arith

ones : (n : ℕ) → n % 10 < 10
ones n = omega arith

-- tokens with a spelling that is read again
abbrev pub Spells : Token → Type 0
Spells (Month m) = IsMonth m
Spells (Number n i) = n ≤ 99
Spells (Time h m) = (h ≤ 99) × (m ≤ 99)
Spells Unknown = ⊥
Spells t = Unit {0}

abbrev pub AllSpell : List Token → Type 0
AllSpell [] = Unit {0}
AllSpell (t ∷ ts) = Spells t × AllSpell ts

-- a number of one digit is below ten
abbrev pub IsFitting : Token → Type 0
IsFitting (Number n digits.One) = n ≤ 9
IsFitting t = Unit {0}

abbrev pub AllFit : List Token → Type 0
AllFit [] = Unit {0}
AllFit (t ∷ ts) = IsFitting t × AllFit ts

-- the text behind the token does not continue it
abbrev pub Ends : Token → List ℕ → Type 0
Ends (Month m) rest = Calm rest
Ends (Number n i) rest = Calm rest
Ends (Day w) rest = Calm rest
Ends Public rest = Calm rest
Ends School rest = Calm rest
Ends Off rest = Calm rest
Ends Open rest = Calm rest
Ends t rest = Unit {0}

month_first : (m : ℕ) (rest : List ℕ) → IsMonth m → Calm rest → token_at (month_text m ++ rest) ≡ Some (Month m, rest)
unfolding month_text word_token
month_first zero rest h c = absurd (omega arith)
month_first (suc zero) rest h c = word_first (codes "Jan") 74 (97 ∷ 110 ∷ []) rest (Month 1) refl (refl, (refl, (refl, tt))) refl c
month_first (suc (suc zero)) rest h c = word_first (codes "Feb") 70 (101 ∷ 98 ∷ []) rest (Month 2) refl (refl, (refl, (refl, tt))) refl c
month_first (suc (suc (suc zero))) rest h c = word_first (codes "Mar") 77 (97 ∷ 114 ∷ []) rest (Month 3) refl (refl, (refl, (refl, tt))) refl c
month_first (suc (suc (suc (suc zero)))) rest h c = word_first (codes "Apr") 65 (112 ∷ 114 ∷ []) rest (Month 4) refl (refl, (refl, (refl, tt))) refl c
month_first (suc (suc (suc (suc (suc zero))))) rest h c =
    word_first (codes "May") 77 (97 ∷ 121 ∷ []) rest (Month 5) refl (refl, (refl, (refl, tt))) refl c
month_first (suc (suc (suc (suc (suc (suc zero)))))) rest h c =
    word_first (codes "Jun") 74 (117 ∷ 110 ∷ []) rest (Month 6) refl (refl, (refl, (refl, tt))) refl c
month_first (suc (suc (suc (suc (suc (suc (suc zero))))))) rest h c =
    word_first (codes "Jul") 74 (117 ∷ 108 ∷ []) rest (Month 7) refl (refl, (refl, (refl, tt))) refl c
month_first (suc (suc (suc (suc (suc (suc (suc (suc zero)))))))) rest h c =
    word_first (codes "Aug") 65 (117 ∷ 103 ∷ []) rest (Month 8) refl (refl, (refl, (refl, tt))) refl c
month_first (suc (suc (suc (suc (suc (suc (suc (suc (suc zero))))))))) rest h c =
    word_first (codes "Sep") 83 (101 ∷ 112 ∷ []) rest (Month 9) refl (refl, (refl, (refl, tt))) refl c
month_first (suc (suc (suc (suc (suc (suc (suc (suc (suc (suc zero)))))))))) rest h c =
    word_first (codes "Oct") 79 (99 ∷ 116 ∷ []) rest (Month 10) refl (refl, (refl, (refl, tt))) refl c
month_first (suc (suc (suc (suc (suc (suc (suc (suc (suc (suc (suc zero))))))))))) rest h c =
    word_first (codes "Nov") 78 (111 ∷ 118 ∷ []) rest (Month 11) refl (refl, (refl, (refl, tt))) refl c
month_first (suc (suc (suc (suc (suc (suc (suc (suc (suc (suc (suc (suc zero)))))))))))) rest h c =
    word_first (codes "Dec") 68 (101 ∷ 99 ∷ []) rest (Month 12) refl (refl, (refl, (refl, tt))) refl c
month_first (suc (suc (suc (suc (suc (suc (suc (suc (suc (suc (suc (suc (suc m))))))))))))) rest h c = absurd (omega arith)

day_first : (d : Weekday) (rest : List ℕ) → Calm rest → token_at (weekday_text d ++ rest) ≡ Some (Day d, rest)
unfolding word_token weekday_token
day_first Mo rest c = word_first (codes "Mo") 77 (111 ∷ []) rest (Day Mo) refl (refl, (refl, tt)) refl c
day_first Tu rest c = word_first (codes "Tu") 84 (117 ∷ []) rest (Day Tu) refl (refl, (refl, tt)) refl c
day_first We rest c = word_first (codes "We") 87 (101 ∷ []) rest (Day We) refl (refl, (refl, tt)) refl c
day_first Th rest c = word_first (codes "Th") 84 (104 ∷ []) rest (Day Th) refl (refl, (refl, tt)) refl c
day_first Fr rest c = word_first (codes "Fr") 70 (114 ∷ []) rest (Day Fr) refl (refl, (refl, tt)) refl c
day_first Sa rest c = word_first (codes "Sa") 83 (97 ∷ []) rest (Day Sa) refl (refl, (refl, tt)) refl c
day_first Su rest c = word_first (codes "Su") 83 (117 ∷ []) rest (Day Su) refl (refl, (refl, tt)) refl c

token_first : (t : Token) (rest : List ℕ) → Spells t → IsFitting t → Ends t rest → token_at (lexeme t ++ rest) ≡ Some (t, rest)
unfolding word_token weekday_token other_token
token_first (Month m) rest h f c = month_first m rest h c
token_first (Day d) rest h f c = day_first d rest c
token_first Public rest h f c = word_first (codes "PH") 80 (72 ∷ []) rest Public refl (refl, (refl, tt)) refl c
token_first School rest h f c = word_first (codes "SH") 83 (72 ∷ []) rest School refl (refl, (refl, tt)) refl c
token_first Off rest h f c = word_first (codes "off") 111 (102 ∷ 102 ∷ []) rest Off refl (refl, (refl, (refl, tt))) refl c
token_first Open rest h f c = word_first (codes "open") 111 (112 ∷ 101 ∷ 110 ∷ []) rest Open refl (refl, (refl, (refl, (refl, tt)))) refl c
token_first Always rest h f c = always_first rest
token_first Unknown rest h f c = absurd h
token_first (Time h m) rest fits f c =
    time_first (48 + h / 10 % 10) (48 + h % 10) (48 + m / 10 % 10) (48 + m % 10) rest
    (digit_no_letter (h / 10 % 10) (tens h)) (digit_is (h / 10 % 10) (tens h)) (digit_is (h % 10) (ones h))
    (digit_is (m / 10 % 10) (tens m)) (digit_is (m % 10) (ones m))
    ∙ ap (λ k. Some (Time k (number_of_two (48 + m / 10 % 10) (48 + m % 10)), rest)) (two_again h fits.0)
    ∙ ap (λ k. Some (Time h k, rest)) (two_again m fits.1)
token_first (Number n digits.One) rest fits f c =
    digit_first (48 + n % 10) rest (digit_no_letter (n % 10) (ones n)) (digit_is (n % 10) (ones n)) c
    ∙ ap (λ k. Some (Number k digits.One, rest)) (one_again n f)
token_first (Number n digits.Two) rest fits f c =
    number_first (48 + n / 10 % 10) (48 + n % 10) rest (digit_no_letter (n / 10 % 10) (tens n))
    (digit_is (n / 10 % 10) (tens n)) (digit_is (n % 10) (ones n)) (digit_no_colon (n % 10) (ones n)) c
    ∙ ap (λ k. Some (Number k digits.Two, rest)) (two_again n fits)
token_first Dash rest h f c = mark_first 45 rest Dash refl refl refl refl
token_first Comma rest h f c = mark_first 44 rest Comma refl refl refl refl
token_first Semicolon rest h f c = mark_first 59 rest Semicolon refl refl refl refl
token_first Colon rest h f c = mark_first 58 rest Colon refl refl refl refl
token_first LeftBracket rest h f c = mark_first 91 rest LeftBracket refl refl refl refl
token_first RightBracket rest h f c = mark_first 93 rest RightBracket refl refl refl refl

digit_no_blank : (n : ℕ) → n < 10 → is_blank (48 + n) ≡ false
digit_no_blank n h = grind (arith, common_steps)

starts_dark : (b : ℕ) (bs : List ℕ) → is_blank b ≡ false → without_blanks (b ∷ bs) ≡ b ∷ bs
starts_dark b bs h = ap (λ v. cond v (without_blanks bs) (b ∷ bs)) h

month_dark : (m : ℕ) (more : List ℕ) → IsMonth m → without_blanks (month_text m ++ more) ≡ month_text m ++ more
unfolding month_text
month_dark zero more h = absurd (omega arith)
month_dark (suc zero) more h = refl
month_dark (suc (suc zero)) more h = refl
month_dark (suc (suc (suc zero))) more h = refl
month_dark (suc (suc (suc (suc zero)))) more h = refl
month_dark (suc (suc (suc (suc (suc zero))))) more h = refl
month_dark (suc (suc (suc (suc (suc (suc zero)))))) more h = refl
month_dark (suc (suc (suc (suc (suc (suc (suc zero))))))) more h = refl
month_dark (suc (suc (suc (suc (suc (suc (suc (suc zero)))))))) more h = refl
month_dark (suc (suc (suc (suc (suc (suc (suc (suc (suc zero))))))))) more h = refl
month_dark (suc (suc (suc (suc (suc (suc (suc (suc (suc (suc zero)))))))))) more h = refl
month_dark (suc (suc (suc (suc (suc (suc (suc (suc (suc (suc (suc zero))))))))))) more h = refl
month_dark (suc (suc (suc (suc (suc (suc (suc (suc (suc (suc (suc (suc zero)))))))))))) more h = refl
month_dark (suc (suc (suc (suc (suc (suc (suc (suc (suc (suc (suc (suc (suc m))))))))))))) more h = absurd (omega arith)

day_dark : (d : Weekday) (more : List ℕ) → without_blanks (weekday_text d ++ more) ≡ weekday_text d ++ more
day_dark Mo more = refl
day_dark Tu more = refl
day_dark We more = refl
day_dark Th more = refl
day_dark Fr more = refl
day_dark Sa more = refl
day_dark Su more = refl

token_dark : (t : Token) (more : List ℕ) → Spells t → without_blanks (lexeme t ++ more) ≡ lexeme t ++ more
token_dark (Month m) more h = month_dark m more h
token_dark (Day d) more h = day_dark d more
token_dark Unknown more h = absurd h
token_dark (Time a b) more h = starts_dark (48 + a / 10 % 10) _ (digit_no_blank (a / 10 % 10) (tens a))
token_dark (Number n digits.One) more h = starts_dark (48 + n % 10) _ (digit_no_blank (n % 10) (ones n))
token_dark (Number n digits.Two) more h = starts_dark (48 + n / 10 % 10) _ (digit_no_blank (n / 10 % 10) (tens n))
token_dark Public more h = refl
token_dark School more h = refl
token_dark Off more h = refl
token_dark Open more h = refl
token_dark Always more h = refl
token_dark Dash more h = refl
token_dark Comma more h = refl
token_dark Semicolon more h = refl
token_dark Colon more h = refl
token_dark LeftBracket more h = refl
token_dark RightBracket more h = refl

spell_dark : (t : Token) (ts : List Token) → Spells t → without_blanks (spell (t ∷ ts)) ≡ spell (t ∷ ts)
unfolding spell
spell_dark t [] h = ap without_blanks (sym (append-nil (lexeme t))) ∙ token_dark t [] h ∙ append-nil (lexeme t)
spell_dark t (u ∷ us) h = token_dark t (blank_between t u ++ spell (u ∷ us)) h

calm_ends : (t : Token) (rest : List ℕ) → Calm rest → Ends t rest
calm_ends (Month m) rest c = c
calm_ends (Number n i) rest c = c
calm_ends (Day w) rest c = c
calm_ends Public rest c = c
calm_ends School rest c = c
calm_ends Off rest c = c
calm_ends Open rest c = c
calm_ends t rest c = tt

tight_ends : (t : Token) (rest : List ℕ) → is_tight t ≡ true → Ends t rest
tight_ends Dash rest e = tt
tight_ends Comma rest e = tt
tight_ends LeftBracket rest e = tt
tight_ends t rest e = absurd cc

mark_calm : (u : Token) (us : List Token) → (is_tight u || is_closing u) ≡ true → Calm (spell (u ∷ us))
unfolding spell
mark_calm Dash [] e = (refl, refl, refl, refl)
mark_calm Dash (v ∷ vs) e = (refl, refl, refl, refl)
mark_calm Comma [] e = (refl, refl, refl, refl)
mark_calm Comma (v ∷ vs) e = (refl, refl, refl, refl)
mark_calm LeftBracket [] e = (refl, refl, refl, refl)
mark_calm LeftBracket (v ∷ vs) e = (refl, refl, refl, refl)
mark_calm RightBracket [] e = (refl, refl, refl, refl)
mark_calm RightBracket (v ∷ vs) e = (refl, refl, refl, refl)
mark_calm Semicolon [] e = (refl, refl, refl, refl)
mark_calm Semicolon (v ∷ vs) e = (refl, refl, refl, refl)
mark_calm t us e = absurd cc

next_ends : (t u : Token) (us : List Token) → Ends t (blank_between t u ++ spell (u ∷ us))
next_ends t u us = by (is_tight t) (is_tight u || is_closing u) refl refl
  where
    by : (v w : Bool) → is_tight t ≡ v → (is_tight u || is_closing u) ≡ w → Ends t (cond (v || w) [] (32 ∷ []) ++ spell (u ∷ us))
    by true w e f = tight_ends t (spell (u ∷ us)) e
    by false true e f = calm_ends t (spell (u ∷ us)) (mark_calm u us f)
    by false false e f = calm_ends t (32 ∷ spell (u ∷ us)) (refl, refl, refl, refl)

after_gap : (b : Bool) (text : List ℕ) → without_blanks (cond b [] (32 ∷ []) ++ text) ≡ without_blanks text
after_gap true text = refl
after_gap false text = refl

spelled_from : (t : Token) (ts : List Token) → AllSpell (t ∷ ts) → AllFit (t ∷ ts) → IsMatched (spell (t ∷ ts)) (t ∷ ts)
unfolding spell
spelled_from t [] h f = ap token_at (sym (append-nil (lexeme t))) ∙ token_first t [] h.0 f.0 (calm_ends t [] tt)
spelled_from t (u ∷ us) h f =
    let rest = blank_between t u ++ spell (u ∷ us) in
    let dark : without_blanks rest ≡ spell (u ∷ us) =
    after_gap (is_tight t || (is_tight u || is_closing u)) (spell (u ∷ us)) ∙ spell_dark u us h.1.0 in
    (rest, token_first t rest h.0 f.0 (next_ends t u us), subst (λ (text : List ℕ). IsMatched text (u ∷ us)) (sym dark) (spelled_from u us h.1 f.1))

-- Tokens that are spelled are cut into the same tokens.
pub spelled_cut : (ts : List Token) → ts ≢ [] → AllSpell ts → AllFit ts → IsMatched (spell ts) ts
spelled_cut [] some h f = absurd (some refl)
spelled_cut (t ∷ ts) some h f = spelled_from t ts h f

-- the tokens of rules have spellings
AllSpell-append : (ts us : List Token) → AllSpell ts → AllSpell us → AllSpell (ts ++ us)
AllSpell-append [] us h k = k
AllSpell-append (t ∷ ts) us h k = (h.0, AllSpell-append ts us h.1 k)

joined_spell : {A : Type 0} (Is : List Token → A → Type 0) (mark : Token) → Spells mark
    → ((ts : List Token) (x : A) → Is ts x → AllSpell ts) → {ts : List Token} {xs : List A} → Joined Is mark ts xs → AllSpell ts
joined_spell Is mark m each (grammar.one {ts = ts} {x = x} h) = each ts x h
joined_spell Is mark m each (grammar.more {ts = ts} {us = us} {x = x} h hs) =
    AllSpell-append ts (mark ∷ us) (each ts x h) (m, joined_spell Is mark m each hs)

small_day : (a : ℕ) → grammar.IsDayNumber a → a ≤ 99
small_day a h = omega arith

small_time : (h m limit : ℕ) → limit ≤ 2880 → IsTime h m limit → (h ≤ 99) × (m ≤ 99)
small_time h m limit le t = (omega arith, omega arith)

date_spell : (ts : List Token) (d : DateSpan) → IsDate ts d → AllSpell ts
date_spell ts d (grammar.month p) = (p, tt)
date_spell ts d (grammar.months p q) = (p, (tt, (q, tt)))
date_spell ts d (grammar.day {a = a} p h) = (p, (small_day a h, tt))
date_spell ts d (grammar.days {a = a} {b = b} p h k) = (p, (small_day a h, (tt, (small_day b k, tt))))
date_spell ts d (grammar.days_over {a = a} {b = b} p h q k) = (p, (small_day a h, (tt, (q, (small_day b k, tt)))))

item_spell : (ts : List Token) (i : DayItem) → IsItem ts i → AllSpell ts
item_spell ts i grammar.weekday = (tt, tt)
item_spell ts i grammar.weekdays = (tt, (tt, (tt, tt)))
item_spell ts i grammar.public = (tt, tt)
item_spell ts i grammar.school = (tt, tt)
item_spell ts i (grammar.nth p) = (tt, (tt, (omega arith, (tt, tt))))
item_spell ts i (grammar.nth_last p) = (tt, (tt, (tt, (omega arith, (tt, tt)))))

span_spell : (ts : List Token) (s : TimeSpan) → IsSpan ts s → AllSpell ts
span_spell ts s (grammar.span {h = h} {m = m} {g = g} {n = n} p q) =
    (small_time h m 1439 (omega arith) p, (tt, (small_time g n 2880 (omega arith) q, tt)))

long_spell : (ts : List Token) (l : LongSpan) → IsLong ts l → AllSpell ts
long_spell ts l (grammar.long {h = h} {m = m} {g = g} {n = n} p q) =
    (tt, (small_time h m 1439 (omega arith) p, (tt, (tt, (small_time g n 1440 (omega arith) q, tt)))))

dates_spell : (ts : List Token) (ds : List DateSpan) → IsDates ts ds → AllSpell ts
dates_spell ts ds grammar.none = tt
dates_spell ts ds (grammar.plain h) = joined_spell IsDate Comma tt date_spell h
dates_spell ts ds (grammar.colon {ts = us} h) = AllSpell-append us (Colon ∷ []) (joined_spell IsDate Comma tt date_spell h) (tt, tt)

days_spell : (ts : List Token) (is : List DayItem) → IsDays ts is → AllSpell ts
days_spell ts is grammar.none = tt
days_spell ts is (grammar.some h) = joined_spell IsItem Comma tt item_spell h

spans_spell : (ts : List Token) (ss : List TimeSpan) → IsSpans ts ss → AllSpell ts
spans_spell ts ss grammar.none = tt
spans_spell ts ss (grammar.some h) = joined_spell IsSpan Comma tt span_spell h

opens_spell : (ts : List Token) → IsOpens ts → AllSpell ts
opens_spell ts grammar.none = tt
opens_spell ts grammar.word = (tt, tt)

rule_spell : (ts : List Token) (r : HoursRule) → IsRule ts r → AllSpell ts
rule_spell ts r (grammar.always {os = os} o) = (tt, opens_spell os o)
rule_spell ts r (grammar.spans {a = a} {b = b} {c = c} {os = os} {dates = ds} {days = is} {spans = ss} d i s o some) =
    AllSpell-append a (b ++ (c ++ os)) (dates_spell a ds d)
    (AllSpell-append b (c ++ os) (days_spell b is i) (AllSpell-append c os (spans_spell c ss s) (opens_spell os o)))
rule_spell ts r (grammar.off {a = a} {b = b} {dates = ds} {days = is} d i) =
    AllSpell-append a (b ++ Off ∷ []) (dates_spell a ds d) (AllSpell-append b (Off ∷ []) (days_spell b is i) (tt, tt))
rule_spell ts r (grammar.long {a = a} {b = b} {os = os} {dates = ds} {l = l} d h o) =
    AllSpell-append a (b ++ os) (dates_spell a ds d) (AllSpell-append b os (long_spell b l h) (opens_spell os o))

pub rules_spell : (ts : List Token) (rs : List HoursRule) → IsRules ts rs → AllSpell ts
rules_spell ts rs h = joined_spell IsRule Semicolon tt rule_spell h

-- the canonical tokens of rules fit
AllFit-append : (ts us : List Token) → AllFit ts → AllFit us → AllFit (ts ++ us)
AllFit-append [] us h k = k
AllFit-append (t ∷ ts) us h k = (h.0, AllFit-append ts us h.1 k)

fit_onto : {A : Type 0} (mark : Token) (f : A → List Token) → IsFitting mark → (x : A) (xs : List A) → AllFit (f x)
    → AllFit (listed mark f xs) → AllFit (listed mark f (x ∷ xs))
fit_onto mark f m x [] h k = h
fit_onto mark f m x (y ∷ ys) h k = AllFit-append (f x) (mark ∷ listed mark f (y ∷ ys)) h (m, k)

listed_fits : {A : Type 0} (Is : List Token → A → Type 0) (mark : Token) (f : A → List Token) → IsFitting mark
    → ((ts : List Token) (x : A) → Is ts x → AllFit (f x)) → {ts : List Token} {xs : List A} → Joined Is mark ts xs → AllFit (listed mark f xs)
listed_fits Is mark f m each (grammar.one {ts = ts} {x = x} h) = each ts x h
listed_fits Is mark f m each (grammar.more {ts = ts} {x = x} {xs = xs} h hs) =
    fit_onto mark f m x xs (each ts x h) (listed_fits Is mark f m each hs)

item_fits : (ts : List Token) (i : DayItem) → IsItem ts i → AllFit (item_tokens i)
item_fits ts i (grammar.weekday {a = a}) = rw (eq-eqb (index_of a) (index_of a) refl) (tt, tt)
item_fits ts i (grammar.weekdays {a = a} {b = b}) = one_of (index_of a == index_of b)
  where
    one_of : (v : Bool) → AllFit (cond v (Day a ∷ []) (Day a ∷ Dash ∷ Day b ∷ []))
    one_of true = (tt, tt)
    one_of false = (tt, (tt, (tt, tt)))
item_fits ts i grammar.public = (tt, tt)
item_fits ts i grammar.school = (tt, tt)
item_fits ts i (grammar.nth p) = (tt, (tt, (omega arith, (tt, tt))))
item_fits ts i (grammar.nth_last p) = (tt, (tt, (tt, (omega arith, (tt, tt)))))

dates_fit : (ts : List Token) (ds : List DateSpan) → IsDates ts ds → AllFit (listed Comma date_tokens ds)
dates_fit ts ds grammar.none = tt
dates_fit ts ds (grammar.plain h) = listed_fits IsDate Comma date_tokens tt (λ ts d p. (tt, (tt, (tt, (tt, (tt, tt)))))) h
dates_fit ts ds (grammar.colon h) = listed_fits IsDate Comma date_tokens tt (λ ts d p. (tt, (tt, (tt, (tt, (tt, tt)))))) h

days_fit : (ts : List Token) (is : List DayItem) → IsDays ts is → AllFit (listed Comma item_tokens is)
days_fit ts is grammar.none = tt
days_fit ts is (grammar.some h) = listed_fits IsItem Comma item_tokens tt item_fits h

spans_fit : (ts : List Token) (ss : List TimeSpan) → IsSpans ts ss → AllFit (listed Comma span_tokens ss)
spans_fit ts ss grammar.none = (tt, (tt, (tt, tt)))
spans_fit ts ss (grammar.some h) = listed_fits IsSpan Comma span_tokens tt (λ ts s p. (tt, (tt, (tt, tt)))) h

rule_fits : (ts : List Token) (r : HoursRule) → IsRule ts r → AllFit (rule_tokens r)
rule_fits ts r (grammar.always o) = (tt, (tt, (tt, tt)))
rule_fits ts r (grammar.spans {a = a} {b = b} {c = c} {dates = ds} {days = is} {spans = ss} d i s o some) =
    AllFit-append (listed Comma date_tokens ds) (listed Comma item_tokens is ++ listed Comma span_tokens ss) (dates_fit a ds d)
    (AllFit-append (listed Comma item_tokens is) (listed Comma span_tokens ss) (days_fit b is i) (spans_fit c ss s))
rule_fits ts r (grammar.off {a = a} {b = b} {dates = ds} {days = is} d i) =
    AllFit-append (listed Comma date_tokens ds) (listed Comma item_tokens is ++ Off ∷ []) (dates_fit a ds d)
    (AllFit-append (listed Comma item_tokens is) (Off ∷ []) (days_fit b is i) (tt, tt))
rule_fits ts r (grammar.long {a = a} {dates = ds} {l = l} d h o) =
    AllFit-append (listed Comma date_tokens ds) (long_tokens l) (dates_fit a ds d) (tt, (tt, (tt, (tt, (tt, tt)))))

pub rules_fit : (ts : List Token) (rs : List HoursRule) → IsRules ts rs → AllFit (hours_tokens rs)
rules_fit ts rs h = listed_fits IsRule Semicolon rule_tokens tt rule_fits h
