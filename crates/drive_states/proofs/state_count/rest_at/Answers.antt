use Rattle.std.proofs.Common.{◌≡◌, ℕ, Some, None, Option, true, sym, ◌∙◌, refl}
use Rattle.std.specs.Option.{is_some}
use Rattle.std.proofs.lemmas.Result.{IfOk-weaker}
use Rattle.route_base.proofs.Logic.{none_from_test}
use Rattle.drive_states.proofs.Marked.{rest_takes, rest_passes}
use Rattle.drive_states.proofs.state_count.rest_at.Goals as goal

some_is : (o : Option ℕ) → is_some o ≡ true → (x : ℕ) × (o ≡ Some x)
some_is None is = absurd (cc)
some_is (Some x) is = (x, refl)

pub returns-then-is_none : goal.returns-then-is_none
returns-then-is_none c = rest_passes c.args.plan.net.now c.args.plan.origin.0 c.args.plan.rule c.args.visit.node.0 c.args.visit.row.now c.args.visit.first c.args.marks.now
    (sym c.weight.ensures.value ∙ none_from_test c.weight.result c.if-is_none.ensures)

pub returns : goal.returns
returns c =
    let found = some_is c.weight.result c.if-is_none.ensures in
    IfOk-weaker c.mark.result _ _ (λ _ marked.
    rest_takes c.args.plan.net.now c.args.plan.origin.0 c.args.plan.rule c.args.visit.node.0 found.0 c.args.visit.row.now c.args.visit.first c.args.marks.now c.mark.new.marks
    (sym c.weight.ensures.value ∙ found.1) c.requires.high marked) c.mark.ensures
