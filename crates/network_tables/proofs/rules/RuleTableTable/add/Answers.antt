use Rattle.std.proofs.Common.{Ok, subst, sym, ap, ◌∙◌}
use Rattle.std.proofs.lemmas.Result.{on_ok_weaker}
use Rattle.csv.specs.Records.{fields_of}
use Rattle.network_tables.specs.RuleLists.{RulesSoFar, HaveRules}
use Rattle.network_tables.proofs.RuleRows.{have_rule, have_passed}
use Rattle.network_tables.proofs.rules.RuleTableTable.add.Goals as goal

pub returns-in-Some-clause-added : goal.returns-in-Some-clause-added
returns-in-Some-clause-added c =
    let table : RulesSoFar = record { areas = c.self.inside.areas.now; arcs = c.self.inside.arcs; read = c.self.inside.rules } in
    on_ok_weaker c.add.result (λ added start before h.
    have_rule start table before (fields_of c.args.row.now) c.add.new.self (subst (λ (t : RulesSoFar). HaveRules start t before) (sym c.self.view_is) h)
    (c.in-Some.place, c.in-Some.value) (c.in_ok-place.ensures.rule ∙ ap Ok c.in-Some.is) added)
    c.add.ensures.added

pub returns-in-None-clause-added : goal.returns-in-None-clause-added
returns-in-None-clause-added c =
    let table : RulesSoFar = record { areas = c.self.inside.areas.now; arcs = c.self.inside.arcs; read = c.self.inside.rules } in
    on_ok_weaker c.pass_over.result (λ counted start before h.
    have_passed start table before (fields_of c.args.row.now) c.pass_over.new.self
    (subst (λ (t : RulesSoFar). HaveRules start t before) (sym c.self.view_is) h) (c.in_ok-place.ensures.rule ∙ ap Ok c.in-None.is) counted)
    c.pass_over.ensures.counted
