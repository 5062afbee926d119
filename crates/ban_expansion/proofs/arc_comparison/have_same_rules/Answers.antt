use Rattle.std.proofs.Common.{take, get_or, All, List, sym, ◌∙◌, subst}
use Rattle.std.proofs.lemmas.List.{take_all, take_more}
use Rattle.std.proofs.lemmas.List.Elements.{All-push}
use Rattle.vehicle_classes.specs.Keys.{every_key}
use Rattle.vehicle_classes.specs.declared.classes.Key.{Key}
use Rattle.vehicle_classes.specs.declared.classes.Key.TheVariants as keys
use Rattle.ban_expansion.specs.Inside.Grouping.{HaveSameRules}
use Rattle.ban_expansion.proofs.AlikeArcs.{same_if_none}
use Rattle.ban_expansion.proofs.arc_comparison.have_same_rules.Goals as goal

pub loop-key-preserved : goal.loop-key-preserved
loop-key-preserved c =
    let same = HaveSameRules c.args.network.now c.args.a.0 c.args.b.0 in
    let i = c.loop-key.key-index in
    let key : Key = get_or every_key i keys.Access in
    let here : same key = c.in_ok-have_same_rules_for.ensures c.if-not-branch.false in
    subst (λ (ks : List Key). All same ks) (sym (take_more every_key i keys.Access c.loop-key-test.true))
    (All-push same (take i every_key) key c.loop-key.invariant here)

pub returns : goal.returns
returns c = λ yes.
    let same = HaveSameRules c.args.network.now c.args.a.0 c.args.b.0 in
    let i = c.loop-key.key-index in
    subst (λ (ks : List Key). All same ks) (take_all i every_key c.loop-key-test.false) c.loop-key.invariant

pub returns-then-not-has_arc_rules : goal.returns-then-not-has_arc_rules
returns-then-not-has_arc_rules c = λ yes.
    same_if_none c.args.network.now c.args.a.0 c.args.b.0 (sym c.has_arc_rules.ensures ∙ c.if-not-has_arc_rules.true)
