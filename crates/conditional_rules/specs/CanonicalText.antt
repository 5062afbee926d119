-- The canonical text of a conditional value (source: OpenStreetMap wiki, conditional restrictions; the one form of each part is own).
use Rattle.std.specs.Prelude.{ℕ, zero, suc, ◌+◌, ◌/◌, ◌%◌, ◌^◌, List, [], ◌∷◌, ◌++◌, map, codes, decimal}
use Rattle.opening_hours.specs.CanonicalTokens.{hours_text}
use Rattle.conditional_rules.specs.declared.access.Access.{Access}
use Rattle.conditional_rules.specs.declared.access.Access.TheVariants.{Free, Barred, Purpose as ForPurpose}
use Rattle.conditional_rules.specs.declared.conditional.Clause.{Clause}
use Rattle.conditional_rules.specs.declared.conditional.Comparison.{Comparison}
use Rattle.conditional_rules.specs.declared.conditional.Comparison.TheVariants.{Below, AtMost, Above, AtLeast, Equal}
use Rattle.conditional_rules.specs.declared.conditional.Part.{Part}
use Rattle.conditional_rules.specs.declared.conditional.Part.TheVariants.{Compare, Flag, Times}
use Rattle.conditional_rules.specs.Comparisons.{quantity_text, decimals_in}

abbrev pub sign_text : Comparison → List ℕ
sign_text Below = codes "<"
sign_text AtMost = codes "<="
sign_text Above = codes ">"
sign_text AtLeast = codes ">="
sign_text Equal = codes "="

-- the last digits of a number
abbrev pub last_digits : ℕ → ℕ → List ℕ
last_digits zero n = []
last_digits (suc k) n = last_digits k (n / 10) ++ (48 + n % 10) ∷ []

-- the point and the decimals of a value, where it has any
abbrev pub decimals_text : ℕ → ℕ → List ℕ
decimals_text zero value = []
decimals_text (suc k) value = 46 ∷ last_digits (suc k) value

-- a value that is counted in its last decimal, without a unit
abbrev pub measure_text : ℕ → ℕ → List ℕ
measure_text decimals value = decimal (value / 10 ^ decimals) ++ decimals_text decimals value

abbrev pub part_text : Part → List ℕ
part_text (Compare quantity comparison value) =
    quantity_text quantity ++ (sign_text comparison ++ measure_text (decimals_in quantity) value)
part_text (Flag word) = word
part_text (Times rules) = hours_text rules

abbrev pub access_text : Access → List ℕ
access_text Free = codes "yes"
access_text Barred = codes "no"
access_text ForPurpose = codes "destination"

-- texts with a mark between them
abbrev pub joined : List ℕ → List (List ℕ) → List ℕ
joined mark [] = []
joined mark (text ∷ []) = text
joined mark (text ∷ next ∷ more) = text ++ (mark ++ joined mark (next ∷ more))

-- a value, and its condition within parentheses
abbrev pub clause_text : Clause → List ℕ
clause_text clause =
    access_text clause.access ++ (codes " @ (" ++ (joined (codes " AND ") (map part_text clause.parts) ++ codes ")"))

-- clauses with a semicolon and a blank between them
abbrev pub conditional_text : List Clause → List ℕ
conditional_text clauses = joined (codes "; ") (map clause_text clauses)
