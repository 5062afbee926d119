use Rattle.std.proofs.Common.{sym, ◌∙◌, ap}
use Rattle.function_merge.specs.Least.{least_of}
use Rattle.ruled_states.specs.Inside.Labels.{least_fit, far_labels, labels_at, lists_of}
use Rattle.ruled_states.proofs.Fitting.{least_append}
use Rattle.ruled_states.proofs.labels.least_for.Goals as goal

pub returns : goal.returns
returns g c =
    let r = g.R.Ruler.ruling c.args.ruler.now in
    let k = c.args.state in
    let lists = lists_of c.args.lists.now in
    let own = c.least_within-own.ensures ∙ ap (λ ls. least_fit r ls k) c.labels_of.ensures in
    let far = c.least_within-far.ensures ∙ ap (λ ls. least_fit r ls k) c.far_labels_of.ensures in
    c.lesser.ensures ∙ ap (λ o. least_of o c.least_within-far.result) own
    ∙ ap (λ o. least_of (least_fit r (labels_at lists c.args.node.0) k) o) far
    ∙ sym (least_append r (labels_at lists c.args.node.0) (far_labels lists) k)
