use Rattle.std.proofs.Common.{◌∙◌, ap, sym}
use Rattle.network_tables.specs.Rules.{rule_value_at}
use Rattle.network_tables.specs.RuleLists.{RuleList}
use Rattle.network_tables.proofs.SamePlaces.{code_value}
use Rattle.network_tables.proofs.rules.Rules.value.Goals as goal

pub returns : goal.returns
returns c =
    c.get.ensures.value ∙ code_value c.self.inside.values.entries c.args.place
    ∙ ap (λ (list : RuleList). rule_value_at list.rules c.args.place) c.self.view_is

pub returns-then-not-may_have : goal.returns-then-not-may_have
returns-then-not-may_have c = sym (c.may_have.ensures c.if-not-may_have.true)
