-- Texts of hours and their rules (source: OpenStreetMap wiki, `opening_hours`).
use Rattle.std.specs.Prelude.{ℕ, List}
use Rattle.opening_hours.specs.declared.tokens.Token.{Token}
use Rattle.opening_hours.specs.declared.types.HoursRule.{HoursRule}
use Rattle.opening_hours.specs.Tokens.{IsCut}
use Rattle.opening_hours.specs.Grammar.{IsRules}

-- the text is cut into tokens that are these rules
abbrev pub IsHours : List ℕ → List HoursRule → Type 0
IsHours text rules = (ts : List Token) × IsCut text ts × IsRules ts rules

-- rules that some text of hours has
abbrev pub IsParsed : List HoursRule → Type 0
IsParsed rules = (text : List ℕ) × IsHours text rules
