-- The canonical text of tokens (source: OpenStreetMap wiki, `opening_hours`; the one form of each is own).
use Rattle.std.specs.Prelude.{ℕ, ◌+◌, ◌%◌, ◌==◌, ◌||◌, Bool, true, false, List, [], ◌∷◌, ◌++◌, codes, if◌then◌else◌}
use Rattle.calendar_days.specs.declared.weekday.Weekday.{Weekday}
use Rattle.calendar_days.specs.declared.weekday.Weekday.TheVariants.{Mo, Tu, We, Th, Fr, Sa, Su}
use Rattle.calendar_days.specs.Texts.{two_digits}
use Rattle.opening_hours.specs.declared.tokens.Token.{Token}
use Rattle.opening_hours.specs.declared.tokens.Token.TheVariants.{Month, Day, Public, School, Off, Open, Always, Unknown}
use Rattle.opening_hours.specs.declared.tokens.Token.TheVariants.{Time, Number, Dash, Comma, Semicolon, Colon, LeftBracket, RightBracket}
use Rattle.opening_hours.specs.declared.tokens.Digits.TheVariants as digits

unfoldable pub month_text : ℕ → List ℕ
month_text m =
    if m == 1 then codes "Jan" else if m == 2 then codes "Feb" else if m == 3 then codes "Mar"
    else if m == 4 then codes "Apr" else if m == 5 then codes "May" else if m == 6 then codes "Jun"
    else if m == 7 then codes "Jul" else if m == 8 then codes "Aug" else if m == 9 then codes "Sep"
    else if m == 10 then codes "Oct" else if m == 11 then codes "Nov" else codes "Dec"

abbrev pub weekday_text : Weekday → List ℕ
weekday_text Mo = codes "Mo"
weekday_text Tu = codes "Tu"
weekday_text We = codes "We"
weekday_text Th = codes "Th"
weekday_text Fr = codes "Fr"
weekday_text Sa = codes "Sa"
weekday_text Su = codes "Su"

-- the last decimal digit of a number
abbrev pub last_digit : ℕ → List ℕ
last_digit n = (48 + n % 10) ∷ []

-- the spelling of each token; a word that means nothing has none, and stands in no rule
abbrev pub lexeme : Token → List ℕ
lexeme (Month m) = month_text m
lexeme (Day w) = weekday_text w
lexeme Public = codes "PH"
lexeme School = codes "SH"
lexeme Off = codes "off"
lexeme Open = codes "open"
lexeme Always = codes "24/7"
lexeme Unknown = []
lexeme (Time h m) = two_digits h ++ (codes ":" ++ two_digits m)
lexeme (Number n digits.One) = last_digit n
lexeme (Number n digits.Two) = two_digits n
lexeme Dash = codes "-"
lexeme Comma = codes ","
lexeme Semicolon = codes ";"
lexeme Colon = codes ":"
lexeme LeftBracket = codes "["
lexeme RightBracket = codes "]"

-- no blank stands beside a dash, a comma or a left bracket
abbrev pub is_tight : Token → Bool
is_tight Dash = true
is_tight Comma = true
is_tight LeftBracket = true
is_tight t = false

-- no blank stands before a semicolon or a right bracket
abbrev pub is_closing : Token → Bool
is_closing Semicolon = true
is_closing RightBracket = true
is_closing t = false

-- the blank between two tokens, if one belongs there
abbrev pub blank_between : Token → Token → List ℕ
blank_between t u = if is_tight t || (is_tight u || is_closing u) then [] else codes " "

-- Tokens as text: one blank between two of them, but none beside a dash, a comma or a left bracket and none before a semicolon or a
-- right bracket.
unfoldable pub spell : List Token → List ℕ
spell [] = []
spell (t ∷ []) = lexeme t
spell (t ∷ u ∷ ts) = lexeme t ++ (blank_between t u ++ spell (u ∷ ts))
