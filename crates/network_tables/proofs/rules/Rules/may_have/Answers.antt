use Rattle.std.proofs.Common.{◌≡◌, false, List, ap, sym, ◌∙◌}
use Rattle.network_tables.specs.OwnKeys.{has_key, keys_at}
use Rattle.network_tables.specs.Rules.{has_own_rule, rule_value_at}
use Rattle.network_tables.specs.RuleLists.{RuleList}
use Rattle.network_tables.specs.declared.rules.own_keys.OwnKeys.{OwnKeys}
use Rattle.network_tables.specs.declared.rules.place.Scope.{Scope}
use Rattle.network_tables.proofs.ArcRules.{no_own_value}
use Rattle.network_tables.proofs.rules.Rules.may_have.Goals as goal

pub returns-in-Arc : goal.returns-in-Arc
returns-in-Arc c = λ off.
    let rules = c.self.inside.values.entries in
    let number = c.in-Arc.number in
    let key = c.args.place.key in
    let kind = c.args.place.conditional in
    let none : has_own_rule rules number key ≡ false =
    sym (c.self.invariant.each number key)
    ∙ sym (ap (λ (own : List OwnKeys). has_key (keys_at own number) key) c.deref.ensures.value)
    ∙ sym (ap (λ (keys : OwnKeys). has_key keys key) c.keys_of.ensures)
    ∙ sym c.has.ensures
    ∙ off in
    sym (ap (λ (list : RuleList). rule_value_at list.rules c.args.place) c.self.view_is)
    ∙ ap (λ (scope : Scope). rule_value_at rules (record { scope = scope; key = key; conditional = kind })) c.in-Arc.is
    ∙ no_own_value rules number key kind none
