-- Rules that are an arc's own.
use Rattle.std.proofs.Common.{◌≡◌, ℕ, zero, suc, ◌&&◌, ◌||◌, Bool, false, Some, None, List, [], ◌∷◌, ◌++◌, refl, ◌∙◌, ap, true≢false, cond}
use Rattle.std.proofs.lemmas.List.Folds.{list_any-append}
use Rattle.std.proofs.lemmas.Bool.{or_parts}
use Rattle.route_base.proofs.Logic.{or-false}
use Rattle.vehicle_classes.specs.declared.classes.Key.{Key}
use Rattle.network_tables.specs.OwnKeys.{keys_at, no_keys}
use Rattle.network_tables.specs.Rules.{Rule, is_arc, is_at, is_own_place, is_same_kind, has_arc_rules, has_own_rule, rule_value_at}
use Rattle.network_tables.specs.declared.rules.own_keys.OwnKeys.{OwnKeys}
use Rattle.network_tables.specs.declared.rules.place.Scope.{Scope}
use Rattle.network_tables.specs.declared.rules.place.Scope.TheVariants as scopes
use Rattle.network_tables.specs.declared.rules.place.RulePlace.{RulePlace}
use Rattle.network_tables.specs.declared.rules.value.RuleValue.{RuleValue}

-- one more rule
pub arc_rules_more : (rules : List Rule) (place : RulePlace) (value : RuleValue)
    → has_arc_rules (rules ++ (place, value) ∷ []) ≡ (has_arc_rules rules || is_arc place.scope)
arc_rules_more rules place value =
    list_any-append (λ (rule : Rule). is_arc rule.0.scope) rules ((place, value) ∷ [])
    ∙ ap (λ b. has_arc_rules rules || b) (or-false (is_arc place.scope))

abbrev pub at_arc : ℕ → Key → Bool → RulePlace
at_arc a key conditional = record { scope = scopes.Arc a; key = key; conditional = conditional }

-- a rule of an area is at no place of an arc
differs : (a : ℕ) (key : Key) (conditional : Bool) (scope : Scope) (other : Key) (kind : Bool) → is_arc scope ≡ false
    → is_at (at_arc a key conditional) (record { scope = scope; key = other; conditional = kind }) ≡ false
differs a key conditional (scopes.Area place) other kind none = refl
differs a key conditional (scopes.Arc number) other kind none = absurd (true≢false none)

-- without rules of their own no arc has a value
pub no_arc_value : (rules : List Rule) (a : ℕ) (key : Key) (conditional : Bool) → has_arc_rules rules ≡ false
    → rule_value_at rules (at_arc a key conditional) ≡ None
no_arc_value [] a key conditional none = refl
no_arc_value (rule ∷ rules) a key conditional none =
    let parts = or_parts (is_arc rule.0.scope) (has_arc_rules rules) none in
    ap (λ b. cond b (Some rule.1) (rule_value_at rules (at_arc a key conditional)))
    (differs a key conditional rule.0.scope rule.0.key rule.0.conditional parts.0)
    ∙ no_arc_value rules a key conditional parts.1

-- without a rule of its own for the key an arc has no value there
pub no_own_value : (rules : List Rule) (a : ℕ) (key : Key) (conditional : Bool) → has_own_rule rules a key ≡ false
    → rule_value_at rules (at_arc a key conditional) ≡ None
no_own_value [] a key conditional none = refl
no_own_value (rule ∷ rules) a key conditional none =
    let parts = or_parts (is_own_place a key rule.0) (has_own_rule rules a key) none in
    ap (λ b. cond (b && is_same_kind conditional rule.0.conditional) (Some rule.1) (rule_value_at rules (at_arc a key conditional))) parts.0
    ∙ no_own_value rules a key conditional parts.1

-- no keys behind the last ones
pub keys_behind : (own : List OwnKeys) (b : ℕ) → keys_at (own ++ no_keys ∷ []) b ≡ keys_at own b
keys_behind [] zero = refl
keys_behind [] (suc b) = refl
keys_behind (keys ∷ own) zero = refl
keys_behind (keys ∷ own) (suc b) = keys_behind own b
