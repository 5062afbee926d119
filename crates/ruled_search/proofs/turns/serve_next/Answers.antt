use Rattle.std.proofs.Common.{◌≡◌, ⊎_elim, ◌<◌, ◌≤◌, ℕ, subst, arith}
use Rattle.std.specs.Prelude.{slice_get}
use Rattle.std.proofs.lemmas.Bool.{cases_lt}
use Rattle.cost_functions.specs.Pieces.{value_at}
use Rattle.state_dominance.specs.Inside.Product.{code, road_code}
use Rattle.ruled_states.specs.Inside.Codes.{base}
use Rattle.ruled_search.specs.Inside.Tasks.{task_of, progress_of, IsRoadRelaxed}
use Rattle.ruled_search.proofs.Relaxed.{no_road, part_kept, way_relaxed}
use Rattle.ruled_search.proofs.Turning.{no_other_service}
use Rattle.ruled_search.proofs.Leaving.{no_road_by}
use Rattle.ruled_search.proofs.turns.serve_next.Goals as goal

pub returns-clause-relaxed : goal.returns-clause-relaxed
returns-clause-relaxed g c = λ j small.
    let task = c.args.task in
    let k = task_of _ g.R.Ruler.ruling task in
    let v : ℕ = c.args.info.node.0 in
    let state : ℕ = c.args.info.state in
    let r = g.R.Ruler.ruling task.ruler.now in
    let part = value_at c.args.part.now in
    let first = progress_of c.args.progress.now in
    let after = progress_of c.relax_from.new.progress in
    let node : v < base = omega (arith, c.requires.high, c.requires.asked.good.nodes) in
    let other : ((r.stage state ≡ j) → ⊥) → IsRoadRelaxed k after (code base v state) part (road_code base 2 j v state) = λ far.
    no_road k (code base v state) part after (road_code base 2 j v state)
    (no_road_by g.R.Ruler.ruling task v state node 2 j (omega arith) small
    (no_other_service r base j state (slice_get r.services j) c.requires.asked.stages far)) in
    ⊎_elim
    (λ (less : j < c.stage-place.result). other (λ same. omega (arith, less, same, c.stage-place.ensures)))
    (λ (from : c.stage-place.result ≤ j). ⊎_elim
    (λ (more : c.stage-place.result < j). other (λ same. omega (arith, more, same, c.stage-place.ensures)))
    (λ (upto : j ≤ c.stage-place.result).
    let same : c.stage-place.result ≡ j = omega (arith, from, upto) in
    subst (λ n. IsRoadRelaxed k after (code base v state) part (road_code base 2 n v state)) same
    (way_relaxed k (code base v state) part after (road_code base 2 c.stage-place.result v state) c.service_way-way.result
    (part_kept k (code base v state) part first after c.in_ok-relax_from.ensures.better c.requires.part) c.service_way-way.ensures.road
    c.service_way-way.ensures.barred c.in_ok-relax_from.ensures.relaxed))
    (cases_lt c.stage-place.result j))
    (cases_lt j c.stage-place.result)
