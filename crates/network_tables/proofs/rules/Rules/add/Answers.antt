use Rattle.std.proofs.Common.{◌≡◌, ◌∙◌, ◌||◌, ◌++◌, ◌∷◌, [], None, List, ap, sym, subst}
use Rattle.std.specs.Option.{option_map}
use Rattle.route_base.proofs.Logic.{none_from_test}
use Rattle.indexmap.proofs.CallerLemmas.{insert_entry-new}
use Rattle.network_tables.specs.OwnKeys.{AreOwnKeys, has_key}
use Rattle.network_tables.specs.Rules.{Rule, has_arc_rules, rule_value_at}
use Rattle.network_tables.specs.RuleLists.{RuleList, with_rule}
use Rattle.network_tables.specs.declared.rules.own_keys.OwnKeys.{OwnKeys}
use Rattle.network_tables.proofs.ArcRules.{arc_rules_more}
use Rattle.network_tables.proofs.SamePlaces.{code_value}
use Rattle.network_tables.proofs.rules.Rules.add.Goals as goal

-- the place had no value
was_free : (c : goal.After-add_key) → rule_value_at c.self.inside.values.entries c.args.place ≡ None
was_free c =
    ap (λ (list : RuleList). rule_value_at list.rules c.args.place) c.self.view_is
    ∙ sym c.value.ensures
    ∙ ap (option_map _) (none_from_test _ (sym c.is_some.ensures ∙ c.if-is_some.false))

-- the rule is the last one
entries_now : (c : goal.After-add_key) → c.insert.new.self.entries ≡ c.self.inside.values.entries ++ (c.args.place, c.args.value) ∷ []
entries_now c =
    c.in_ok-insert.ensures.entries
    ∙ insert_entry-new _ c.self.inside.values c.args.place c.args.value (code_value c.self.inside.values.entries c.args.place ∙ was_free c)

pub invariant_of-self-2 : goal.invariant_of-self-2
invariant_of-self-2 c =
    let rules = c.self.inside.values.entries in
    let some =
    (λ i. c.self.invariant.some i || c.is_arc.ensures i)
    ∙ sym (arc_rules_more rules c.args.place c.args.value)
    ∙ sym (ap has_arc_rules (entries_now c)) in
    let before : AreOwnKeys c.make_room.new.own.items rules =
    λ a key. ap (λ (keys : OwnKeys). has_key keys key) (c.make_room.ensures.same a) ∙ c.self.invariant.each a key in
    record {
      some = some;
      each = subst (λ (list : List Rule). AreOwnKeys c.add_key.new.own.items list) (sym (entries_now c)) (c.add_key.ensures rules c.args.value before);
    }

pub returns-clause-added : goal.returns-clause-added
returns-clause-added c =
    (λ i. record { rules = entries_now c i; passed_over = c.self.inside.passed_over })
    ∙ ap (λ (list : RuleList). with_rule list c.args.place c.args.value) c.self.view_is
