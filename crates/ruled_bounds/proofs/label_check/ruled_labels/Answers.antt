use Rattle.std.proofs.Common.{subst}
use Rattle.route_base.specs.Net.{setting_of}
use Rattle.ruled_states.specs.Inside.Labels.{lists_of}
use Rattle.ruled_bounds.specs.Inside.GoodLabels.{in_minutes, in_cost, AreGoodLabels}
use Rattle.ruled_bounds.proofs.Bounding.{label_bounds_hold}
use Rattle.ruled_bounds.proofs.label_check.ruled_labels.Goals as goal

pub returns : goal.returns
returns g c =
    let ruler = c.args.ground.now.ruler.now in
    let r = g.R.Ruler.ruling ruler in
    let s = setting_of c.args.ground.now.net.now in
    let end = c.args.ground.now.goal.0 in
    label_bounds_hold s r end (lists_of c.in_ok-found.found.minutes.items) (lists_of c.in_ok-found.found.costs.items) (g.met.R.Ruler.fitting ruler)
    c.drives_tire.ensures
    (subst (λ lists. AreGoodLabels s r end in_minutes (lists_of lists)) c.as_slice.ensures.value (c.lists_hold.ensures c.if-not-lists_hold.false))
    (subst (λ lists. AreGoodLabels s r end in_cost (lists_of lists)) c.as_slice-2.ensures.value (c.lists_hold-2.ensures c.if-not-lists_hold-2.false))
