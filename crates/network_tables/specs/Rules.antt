-- rules.csv: access rules of areas and arcs by key (source: OpenStreetMap wiki, access keys; the table is own).
use Rattle.std.specs.Prelude.{ℕ, ◌-◌, nat_lt, nat_eq, ◌&&◌, not, Bool, true, false, is_some, Option, Some, None, Result, Ok, Err, List, [], ◌∷◌, length, take, drop, codes, if◌then◌else◌}
use Rattle.std.specs.List.{filter_map, filter, list_any}
use Rattle.std.specs.Map.{lookup}
use Rattle.std.specs.Option.{option_map, option_and_then}
use Rattle.std.specs.Str.{bytes_eq}
use Rattle.route_base.specs.Forms.{is_from_to, is_name, table_number_of}
use Rattle.route_base.specs.declared.faults.Cause.{Cause}
use Rattle.route_base.specs.declared.faults.Cause.TheVariants.{BadField, Unknown, Duplicate, SizeLimit, NotConditional}
use Rattle.route_base.specs.declared.limits.TheConstants.{LONGEST_RULE, MOST_RULES}
use Rattle.vehicle_classes.specs.Keys.{every_key, key_of}
use Rattle.vehicle_classes.specs.declared.classes.Key.{Key}
use Rattle.vehicle_classes.specs.declared.classes.Key.TheVariants as keys
use Rattle.conditional_rules.specs.Accesses.{access_of}
use Rattle.conditional_rules.specs.Reading.{conditional_of}
use Rattle.conditional_rules.specs.declared.access.Access.{Access}
use Rattle.conditional_rules.specs.declared.conditional.Clause.{Clause}
use Rattle.table_reader.specs.Schema.{Schema}
use Rattle.table_reader.specs.NameIndex.{place_among}
use Rattle.table_reader.specs.Records.{Record}
use Rattle.network_tables.specs.declared.rules.place.Scope.{Scope}
use Rattle.network_tables.specs.declared.rules.place.Scope.TheVariants as scopes
use Rattle.network_tables.specs.declared.rules.place.RulePlace.{RulePlace}
use Rattle.network_tables.specs.declared.rules.value.RuleValue.{RuleValue}
use Rattle.network_tables.specs.declared.rules.value.RuleValue.TheVariants as values

-- the bytes after a mark at the start of a text, and before one at its end
abbrev pub after : List ℕ → List ℕ → Option (List ℕ)
after mark text = if bytes_eq (take (length mark) text) mark then Some (drop (length mark) text) else None

abbrev pub before : List ℕ → List ℕ → Option (List ℕ)
before mark text =
    if bytes_eq (drop (length text - length mark) text) mark then Some (take (length text - length mark) text) else None

-- the key of a word, and whether `:conditional` follows it
abbrev pub key_before : Option (List ℕ) → List ℕ → Option (Key × Bool)
key_before (Some word) field = option_map (λ key. (key, true)) (key_of word)
key_before None field = option_map (λ key. (key, false)) (key_of field)

-- the key of a field, and whether its values are conditional
abbrev pub key_field_of : List ℕ → Option (Key × Bool)
key_field_of field = key_before (before (codes ":conditional") field) field

-- an arc from 1 to `arcs`
abbrev pub arc_scope : ℕ → Option ℕ → Result Scope Cause
arc_scope arcs None = Err BadField
arc_scope arcs (Some a) = if is_from_to 1 arcs a then Ok (scopes.Arc a) else Err Unknown

-- the area at a place
abbrev pub area_scope : Option ℕ → Result Scope Cause
area_scope None = Err Unknown
area_scope (Some place) = Ok (scopes.Area place)

-- the scope of what follows `arc:`, or of what follows `area:`
abbrev pub scope_from : ℕ → List (List ℕ) → Option (List ℕ) → Option (List ℕ) → Result Scope Cause
scope_from arcs areas (Some number) area = arc_scope arcs (table_number_of number)
scope_from arcs areas None (Some name) = if is_name name then area_scope (place_among areas name) else Err BadField
scope_from arcs areas None None = Err BadField

-- the scope of a field over these arcs and areas
abbrev pub scope_of : ℕ → List (List ℕ) → List ℕ → Result Scope Cause
scope_of arcs areas field = scope_from arcs areas (after (codes "arc:") field) (after (codes "area:") field)

abbrev pub plain_value : Option Access → Result RuleValue Cause
plain_value None = Err BadField
plain_value (Some access) = Ok (values.Plain access)

abbrev pub conditional_value : Option (List Clause) → Result RuleValue Cause
conditional_value None = Err NotConditional
conditional_value (Some clauses) = Ok (values.Conditional clauses)

-- the value of a rule
abbrev pub rule_value_of : Bool → List ℕ → Result RuleValue Cause
rule_value_of conditional text =
    if nat_lt LONGEST_RULE (length text) then Err SizeLimit
    else if conditional then conditional_value (conditional_of text)
    else plain_value (access_of text)

-- a rule: its place and its value
abbrev pub Rule : Type 0
Rule = RulePlace × RuleValue

abbrev pub placed_at : Scope → Key × Bool → Result RuleValue Cause → Result (Option Rule) Cause
placed_at scope key (Ok value) = Ok (Some (record { scope = scope; key = key.0; conditional = key.1 }, value))
placed_at scope key (Err cause) = Err cause

-- the rule of a scope; without a key of access the row is passed over
abbrev pub rule_in : Result Scope Cause → Option (Key × Bool) → List ℕ → Result (Option Rule) Cause
rule_in (Err cause) key text = Err cause
rule_in (Ok scope) None text = Ok None
rule_in (Ok scope) (Some key) text = placed_at scope key (rule_value_of key.1 text)

-- a scope, a key and a value
abbrev pub rule_of : ℕ → List (List ℕ) → Record → Result (Option Rule) Cause
rule_of arcs areas (scope ∷ key ∷ value ∷ []) = rule_in (scope_of arcs areas scope) (key_field_of key) value
rule_of arcs areas others = Err BadField

-- whether two scopes are the same: one area, or one arc
abbrev pub is_same_scope : Scope → Scope → Bool
is_same_scope (scopes.Area place) (scopes.Area other) = nat_eq place other
is_same_scope (scopes.Arc number) (scopes.Arc other) = nat_eq number other
is_same_scope scope other = false

-- whether two keys are the same
abbrev pub is_same_key : Key → Key → Bool
is_same_key keys.Access keys.Access = true
is_same_key keys.Vehicle keys.Vehicle = true
is_same_key keys.MotorVehicle keys.MotorVehicle = true
is_same_key keys.Hgv keys.Hgv = true
is_same_key keys.HgvArticulated keys.HgvArticulated = true
is_same_key keys.Goods keys.Goods = true
is_same_key keys.Bus keys.Bus = true
is_same_key key other = false

-- whether two kinds are the same
abbrev pub is_same_kind : Bool → Bool → Bool
is_same_kind conditional other = if conditional then other else not other

-- whether two places are the same: the same scope, key and kind
abbrev pub is_at : RulePlace → RulePlace → Bool
is_at place other =
    is_same_scope place.scope other.scope && is_same_key place.key other.key && is_same_kind place.conditional other.conditional

-- the value of the rule at a place
abbrev pub rule_value_at : List Rule → RulePlace → Option RuleValue
rule_value_at rules place = lookup (is_at place) rules

-- the place has no rule yet
abbrev pub cause_of_rule : List Rule → Result (Option Rule) Cause → Option Cause
cause_of_rule before (Err cause) = Some cause
cause_of_rule before (Ok None) = None
cause_of_rule before (Ok (Some rule)) = if is_some (rule_value_at before rule.0) then Some Duplicate else None

abbrev pub rule_stated : Result (Option Rule) Cause → Option Rule
rule_stated (Err cause) = None
rule_stated (Ok rule) = rule

abbrev pub is_passed_over : Result (Option Rule) Cause → Bool
is_passed_over (Err cause) = false
is_passed_over (Ok None) = true
is_passed_over (Ok (Some rule)) = false

-- the rules of these rows in their order
abbrev pub rules_in : ℕ → List (List ℕ) → List Record → List Rule
rules_in arcs areas rows = filter_map (λ row. rule_stated (rule_of arcs areas row)) rows

-- the number of rows whose key is passed over
abbrev pub passed_over_in : ℕ → List (List ℕ) → List Record → ℕ
passed_over_in arcs areas rows = length (filter (λ row. is_passed_over (rule_of arcs areas row)) rows)

-- a scope, a key and a value
abbrev pub rules_schema : ℕ → List (List ℕ) → Schema
rules_schema arcs areas = record {
  headers = (codes "scope" ∷ codes "key" ∷ codes "value" ∷ []) ∷ [];
  limit = MOST_RULES;
  cause = λ header before row. cause_of_rule (rules_in arcs areas before) (rule_of arcs areas row);
}

-- the access of a plain rule, and the clauses of a conditional one
abbrev pub access_in : RuleValue → Option Access
access_in (values.Plain access) = Some access
access_in (values.Conditional clauses) = None

abbrev pub clauses_in : RuleValue → Option (List Clause)
clauses_in (values.Plain access) = None
clauses_in (values.Conditional clauses) = Some clauses

-- the access that the plain rule of a scope and a key gives
abbrev pub plain_at : List Rule → Scope → Key → Option Access
plain_at rules scope key = option_and_then access_in (rule_value_at rules (record { scope = scope; key = key; conditional = false }))

-- the clauses of the conditional rule of a scope and a key
abbrev pub conditional_at : List Rule → Scope → Key → Option (List Clause)
conditional_at rules scope key = option_and_then clauses_in (rule_value_at rules (record { scope = scope; key = key; conditional = true }))

-- whether a scope is one arc, and whether some rule is an arc's own
abbrev pub is_arc : Scope → Bool
is_arc (scopes.Area place) = false
is_arc (scopes.Arc number) = true

abbrev pub has_arc_rules : List Rule → Bool
has_arc_rules rules = list_any (λ rule. is_arc rule.0.scope) rules

-- whether a place is an arc's own for a key, whether the arc has a rule of its own for the key, and whether it has one for any key
abbrev pub is_own_place : ℕ → Key → RulePlace → Bool
is_own_place a key place = is_same_scope (scopes.Arc a) place.scope && is_same_key key place.key

abbrev pub has_own_rule : List Rule → ℕ → Key → Bool
has_own_rule rules a key = list_any (λ rule. is_own_place a key rule.0) rules

abbrev pub has_own_rules : List Rule → ℕ → Bool
has_own_rules rules a = list_any (has_own_rule rules a) every_key
