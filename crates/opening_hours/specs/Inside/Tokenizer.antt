-- The tokenizer, step by step: how a text is cut (source: own; no law: `Tokens` is, and that these steps meet it is proved).
use Rattle.std.specs.Prelude.{◌≡◌, ℕ, ◌==◌, ◌&&◌, Option, Some, None, List, [], ◌∷◌, length, drop, if◌then◌else◌}
use Rattle.std.specs.List.{take_while}
use Rattle.std.specs.Option.{option_or}
use Rattle.opening_hours.specs.declared.tokens.Token.{Token}
use Rattle.opening_hours.specs.declared.tokens.Token.TheVariants.{Always, Time, Number, Dash, Comma, Semicolon, Colon, LeftBracket, RightBracket}
use Rattle.opening_hours.specs.declared.tokens.Digits.TheVariants as digits
use Rattle.opening_hours.specs.Tokens.{is_digit, is_letter, one_digit, number_of_two, word_token, without_blanks}

-- Each kind of token at the front of a text, with what stands behind it.
abbrev pub word_of : List ℕ → List ℕ → Option (Token × List ℕ)
word_of [] rest = None
word_of (b ∷ bs) rest = Some (word_token (b ∷ bs), rest)

unfoldable pub word_at : List ℕ → Option (Token × List ℕ)
word_at text = let word = take_while is_letter text in word_of word (drop (length word) text)

-- 24/7
abbrev pub always_at : List ℕ → Option (Token × List ℕ)
always_at (a ∷ b ∷ c ∷ d ∷ rest) = if a == 50 && (b == 52 && (c == 47 && d == 55)) then Some (Always, rest) else None
always_at text = None

-- 08:00
abbrev pub long_time_at : List ℕ → Option (Token × List ℕ)
long_time_at (a ∷ b ∷ c ∷ d ∷ e ∷ rest) = if is_digit a && (is_digit b && (c == 58 && (is_digit d && is_digit e))) then
    Some (Time (number_of_two a b) (number_of_two d e), rest) else None
long_time_at text = None

-- 8:00
abbrev pub short_time_at : List ℕ → Option (Token × List ℕ)
short_time_at (a ∷ c ∷ d ∷ e ∷ rest) = if is_digit a && (c == 58 && (is_digit d && is_digit e)) then
    Some (Time (one_digit a) (number_of_two d e), rest) else None
short_time_at text = None

abbrev pub long_number_at : List ℕ → Option (Token × List ℕ)
long_number_at (a ∷ b ∷ rest) = if is_digit a && is_digit b then Some (Number (number_of_two a b) digits.Two, rest) else None
long_number_at text = None

abbrev pub short_number_at : List ℕ → Option (Token × List ℕ)
short_number_at (a ∷ rest) = if is_digit a then Some (Number (one_digit a) digits.One, rest) else None
short_number_at text = None

abbrev pub mark_at : List ℕ → Option (Token × List ℕ)
mark_at (a ∷ rest) =
    if a == 45 then Some (Dash, rest)
    else if a == 44 then Some (Comma, rest)
    else if a == 59 then Some (Semicolon, rest)
    else if a == 58 then Some (Colon, rest)
    else if a == 91 then Some (LeftBracket, rest)
    else if a == 93 then Some (RightBracket, rest)
    else None
mark_at text = None

-- the longest token at the front, and what stands behind it: a longer kind comes before a shorter one
unfoldable pub token_at : List ℕ → Option (Token × List ℕ)
token_at text =
    option_or (word_at text)
    (option_or (long_time_at text)
    (option_or (always_at text)
    (option_or (short_time_at text)
    (option_or (long_number_at text)
    (option_or (short_number_at text)
    (mark_at text))))))

-- each token is the one that is found at its place
abbrev pub IsMatched : List ℕ → List Token → Type 0
IsMatched text [] = ⊥
IsMatched text (t ∷ []) = token_at text ≡ Some (t, [])
IsMatched text (t ∷ u ∷ ts) = (rest : List ℕ) × (token_at text ≡ Some (t, rest)) × IsMatched (without_blanks rest) (u ∷ ts)
