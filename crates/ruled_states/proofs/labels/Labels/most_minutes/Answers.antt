use Rattle.std.proofs.Common.{List, ◌∙◌, ap, subst}
use Rattle.std.specs.Prelude.{IfSome}
use Rattle.ruled_states.specs.Inside.Labels.{labels_at, lists_of, IsSure}
use Rattle.ruled_states.specs.declared.labels.Label.{Label}
use Rattle.ruled_states.proofs.Fitting.{sure_bounds}
use Rattle.ruled_states.proofs.labels.Labels.most_minutes.Goals as goal

pub returns : goal.returns
returns g c =
    let r = g.R.Ruler.ruling c.args.ruler.now in
    let held = c.args.self.now in
    sure_bounds r (lists_of held.minutes.items) (lists_of held.costs.items) c.args.node.0 c.args.stage c.sure_value.result
    (subst (λ (ls : List Label). IfSome c.sure_value.result (IsSure r ls c.args.stage))
    (c.labels_of.ensures ∙ ap (λ ls. labels_at (lists_of ls) c.args.node.0) c.deref.ensures.value) c.sure_value.ensures)
