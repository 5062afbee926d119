-- The tokens of hours, and how a text is cut into them (source: OpenStreetMap wiki, `opening_hours`).
use Rattle.std.specs.Prelude.{◌≡◌, ℕ, ◌+◌, ◌-◌, ◌*◌, ◌≤◌, ◌&&◌, ◌||◌, Bool, true, nat_le, List, [], ◌∷◌, ◌++◌, length, codes, if◌then◌else◌}
use Rattle.std.specs.Str.{bytes_eq}
use Rattle.route_base.specs.Forms.{is_blank}
use Rattle.calendar_days.specs.declared.weekday.Weekday.TheVariants.{Mo, Tu, We, Th, Fr, Sa, Su}
use Rattle.opening_hours.specs.declared.tokens.Token.{Token}
use Rattle.opening_hours.specs.declared.tokens.Token.TheVariants.{Month, Day, Public, School, Off, Open, Always, Unknown}
use Rattle.opening_hours.specs.declared.tokens.Token.TheVariants.{Time, Number, Dash, Comma, Semicolon, Colon, LeftBracket, RightBracket}
use Rattle.opening_hours.specs.declared.tokens.Digits.TheVariants as digits

-- 0 to 9
abbrev pub is_digit : ℕ → Bool
is_digit b = nat_le 48 b && nat_le b 57

-- A to Z and a to z
abbrev pub is_letter : ℕ → Bool
is_letter b = (nat_le 65 b && nat_le b 90) || (nat_le 97 b && nat_le b 122)

-- the number that one digit is, and that two are
abbrev pub one_digit : ℕ → ℕ
one_digit a = a - 48

abbrev pub number_of_two : ℕ → ℕ → ℕ
number_of_two a b = 10 * (a - 48) + (b - 48)

-- The words that mean something, as they are written, each with its token.
abbrev pub months : List (List ℕ × Token)
months =
    (codes "Jan", Month 1) ∷ (codes "Feb", Month 2) ∷ (codes "Mar", Month 3) ∷ (codes "Apr", Month 4)
    ∷ (codes "May", Month 5) ∷ (codes "Jun", Month 6) ∷ (codes "Jul", Month 7) ∷ (codes "Aug", Month 8)
    ∷ (codes "Sep", Month 9) ∷ (codes "Oct", Month 10) ∷ (codes "Nov", Month 11) ∷ (codes "Dec", Month 12) ∷ []

abbrev pub weekdays : List (List ℕ × Token)
weekdays =
    (codes "Mo", Day Mo) ∷ (codes "Tu", Day Tu) ∷ (codes "We", Day We) ∷ (codes "Th", Day Th)
    ∷ (codes "Fr", Day Fr) ∷ (codes "Sa", Day Sa) ∷ (codes "Su", Day Su) ∷ []

abbrev pub other_words : List (List ℕ × Token)
other_words = (codes "PH", Public) ∷ (codes "SH", School) ∷ (codes "off", Off) ∷ (codes "closed", Off) ∷ (codes "open", Open) ∷ []

-- the token of a word in a table, or another token
abbrev pub token_in : List (List ℕ × Token) → Token → List ℕ → Token
token_in [] other word = other
token_in (row ∷ rows) other word = if bytes_eq word row.0 then row.1 else token_in rows other word

-- the token of a word that is neither a month nor a weekday, and of one that is no month
unfoldable pub other_token : List ℕ → Token
other_token word = token_in other_words Unknown word

unfoldable pub weekday_token : List ℕ → Token
weekday_token word = token_in weekdays (other_token word) word

-- the token of a word; one that is in no table means nothing, and stands in no rule
unfoldable pub word_token : List ℕ → Token
word_token word = token_in months (weekday_token word) word

-- each byte is a letter
abbrev pub AreLetters : List ℕ → Type 0
AreLetters [] = Unit {0}
AreLetters (b ∷ bs) = (is_letter b ≡ true) × AreLetters bs

-- the bytes are this token: a word of letters, 24/7, a time such as 08:00 or 8:00, a number of one or two digits, or a mark
pub data IsToken : List ℕ → Token → Type 0 where
  word : {b : ℕ} {bs : List ℕ} → AreLetters (b ∷ bs) → IsToken (b ∷ bs) (word_token (b ∷ bs))
  always : IsToken (codes "24/7") Always
  long_time : {a b d e : ℕ} → is_digit a ≡ true → is_digit b ≡ true → is_digit d ≡ true → is_digit e ≡ true
      → IsToken (a ∷ b ∷ (codes ":" ++ d ∷ e ∷ [])) (Time (number_of_two a b) (number_of_two d e))
  short_time : {a d e : ℕ} → is_digit a ≡ true → is_digit d ≡ true → is_digit e ≡ true
      → IsToken (a ∷ (codes ":" ++ d ∷ e ∷ [])) (Time (one_digit a) (number_of_two d e))
  long_number : {a b : ℕ} → is_digit a ≡ true → is_digit b ≡ true → IsToken (a ∷ b ∷ []) (Number (number_of_two a b) digits.Two)
  short_number : {a : ℕ} → is_digit a ≡ true → IsToken (a ∷ []) (Number (one_digit a) digits.One)
  dash : IsToken (codes "-") Dash
  comma : IsToken (codes ",") Comma
  semicolon : IsToken (codes ";") Semicolon
  colon : IsToken (codes ":") Colon
  left_bracket : IsToken (codes "[") LeftBracket
  right_bracket : IsToken (codes "]") RightBracket

-- the token stands at the front of the text, and no longer one does
pub record IsFirstToken (text : List ℕ) (t : Token) (rest : List ℕ) : Type 0 where
  pub lexeme : List ℕ
  pub parts : text ≡ lexeme ++ rest
  pub is : IsToken lexeme t
  pub longest : (other more : List ℕ) (u : Token) → text ≡ other ++ more → IsToken other u → length other ≤ length lexeme

-- without the blanks at the front
abbrev pub without_blanks : List ℕ → List ℕ
without_blanks [] = []
without_blanks (b ∷ bs) = if is_blank b then without_blanks bs else b ∷ bs

-- the text is cut into these tokens, one at least: each is the longest at its place, and blanks stand between tokens alone
abbrev pub IsCut : List ℕ → List Token → Type 0
IsCut text [] = ⊥
IsCut text (t ∷ []) = IsFirstToken text t []
IsCut text (t ∷ u ∷ ts) = (rest : List ℕ) × IsFirstToken text t rest × IsCut (without_blanks rest) (u ∷ ts)
