-- Rules while their table is being read (source: own).
use Rattle.std.specs.Prelude.{◌≡◌, ◌+◌, ◌∷◌, ◌++◌, ℕ, List, []}
use Rattle.table_reader.specs.NameIndex.{names_of}
use Rattle.table_reader.specs.Records.{Record}
use Rattle.network_tables.specs.Rules.{Rule, rules_in, passed_over_in}
use Rattle.network_tables.specs.declared.rules.place.RulePlace.{RulePlace}
use Rattle.network_tables.specs.declared.rules.value.RuleValue.{RuleValue}

-- rules in the order of their rows, and the number of rows that were passed over
pub record RuleList : Type 0 where
  pub rules : List Rule
  pub passed_over : ℕ

-- a further rule, and a further row that is passed over
abbrev pub with_rule : RuleList → RulePlace → RuleValue → RuleList
with_rule list place value = record { rules = list.rules ++ (place, value) ∷ []; passed_over = list.passed_over }

abbrev pub with_passed_row : RuleList → RuleList
with_passed_row list = record { rules = list.rules; passed_over = list.passed_over + 1 }

-- rules so far, with the areas and the number of arcs for which they stand
pub record RulesSoFar : Type 0 where
  pub areas : List (List ℕ × ℕ)
  pub arcs : ℕ
  pub read : RuleList

-- the rules of rows over these arcs and areas
abbrev pub rules_stated : ℕ → List (List ℕ) → List Record → RuleList
rules_stated arcs areas rows = record { rules = rules_in arcs areas rows; passed_over = passed_over_in arcs areas rows }

-- adding these rows to `start`, which has no rules, gives `now`
pub record HaveRules (start now : RulesSoFar) (rows : List Record) : Type 0 where
  pub areas : now.areas ≡ start.areas
  pub arcs : now.arcs ≡ start.arcs
  pub read : now.read ≡ rules_stated start.arcs (names_of start.areas) rows
