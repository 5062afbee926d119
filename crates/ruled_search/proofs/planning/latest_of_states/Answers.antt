use Rattle.std.proofs.Common.{ℕ, Option, List, IfOk, sym, subst}
use Rattle.state_dominance.specs.Inside.Product.{AreLatest}
use Rattle.ruled_states.specs.Inside.Latest.{latest_by}
use Rattle.ruled_states.specs.declared.labels.Labels.{Labels}
use Rattle.ruled_search.specs.Inside.Tasks.{state_bound}
use Rattle.ruled_search.proofs.Bounding.{last_minutes}
use Rattle.ruled_search.proofs.planning.latest_of_states.Goals as goal

pub returns-in_default : goal.returns-in_default
returns-in_default g c =
    let ruler = g.R.Ruler.ruling c.args.ruler.now in
    let until = c.args.request.until in
    let bound = state_bound ruler c.args.bounds.now in
    subst (λ (w : List ℕ). AreLatest ruler until bound (latest_by ruler w until)) (sym c.new.ensures.items) (last_minutes ruler until bound)

pub returns : goal.returns
returns g c =
    let ruler = g.R.Ruler.ruling c.args.ruler.now in
    let until = c.args.request.until in
    subst (λ (o : Option Labels). IfOk c.latest_by_left.result (λ latest. AreLatest ruler until (state_bound ruler o) (latest_by ruler latest.items until)))
    (sym c.in-Some.is) c.latest_by_left.ensures
