-- The rules of a text as a function, which agrees with `IsHours` (source: own).
use Rattle.std.specs.Prelude.{ℕ, zero, suc, Option, Some, None, option_and_then, option_map, List, [], ◌∷◌, length}
use Rattle.opening_hours.specs.declared.tokens.Token.{Token}
use Rattle.opening_hours.specs.declared.types.HoursRule.{HoursRule}
use Rattle.opening_hours.specs.Tokens.{without_blanks}
use Rattle.opening_hours.specs.Inside.Parser.{read_rules}
use Rattle.opening_hours.specs.Inside.Tokenizer.{token_at}

-- a token before the tokens of the rest: alone if nothing is left, or before those that `cut` gives for the rest without leading blanks
abbrev pub tokens_from : (List ℕ → Option (List Token)) → Token → List ℕ → Option (List Token)
tokens_from cut t [] = Some (t ∷ [])
tokens_from cut t (b ∷ bs) = option_map (λ ts. t ∷ ts) (cut (without_blanks (b ∷ bs)))

-- the tokens of a text, if it can be cut into n tokens at most
unfoldable pub tokens_within : ℕ → List ℕ → Option (List Token)
tokens_within zero text = None
tokens_within (suc n) text = option_and_then (λ first. tokens_from (tokens_within n) first.0 first.1) (token_at text)

-- the rules of a text, if it has any: a text has no more tokens than bytes
unfoldable pub hours_of : List ℕ → Option (List HoursRule)
hours_of text = option_and_then read_rules (tokens_within (length text) text)
