use Rattle.std.proofs.Common.{◌≡◌, ⊎_elim, ◌<◌, ℕ, get_or, refl, subst, arith}
use Rattle.cost_functions.specs.Pieces.{value_at}
use Rattle.state_dominance.specs.Inside.Product.{code, road_code}
use Rattle.ruled_states.specs.Inside.Codes.{base}
use Rattle.ruled_search.specs.Inside.Tasks.{task_of, progress_of, IsRoadRelaxed}
use Rattle.ruled_search.proofs.Relaxed.{improves_append, part_kept, road_kept, way_relaxed}
use Rattle.node_arcs.proofs.StarPlaces.{earlier_or_next, ends_place, place_ends}
use Rattle.node_arcs.specs.declared.links.End.TheVariants.{Tail}
use Rattle.route_base.specs.declared.types.ArcId.{ArcId}
use Rattle.propagation.specs.Inside.Invariants.{point}
use Rattle.ruled_search.proofs.Leaving.{drive_leaves}
use Rattle.ruled_search.proofs.turns.drive_each.Goals as goal

abbrev no_arc : ArcId
no_arc = record { 0 = 0 }

pub drive_way-way-requires-clause-begins : goal.drive_way-way-requires-clause-begins
drive_way-way-requires-clause-begins g c = place_ends c.args.task.net.now Tail c.args.task.outgoing.now c.requires.asked.outgoing c.args.info.node.0
    c.of-a-items.result.now c.of-a-items.ensures c.loop-a.a-index no_arc c.loop-a-test.true

pub relax_from-requires-clause-part : goal.relax_from-requires-clause-part
relax_from-requires-clause-part g c = part_kept (task_of _ g.R.Ruler.ruling c.args.task) (code base c.args.info.node.0 c.args.info.state)
    (value_at c.args.part.now) (progress_of c.args.progress.now) (progress_of c.loop-a.progress) c.loop-a.invariant.better c.requires.part

pub loop-a-preserved : goal.loop-a-preserved
loop-a-preserved g c =
    let k = task_of _ g.R.Ruler.ruling c.args.task in
    let v : ℕ = c.args.info.node.0 in
    let state : ℕ = c.args.info.state in
    let part = value_at c.args.part.now in
    let first = progress_of c.args.progress.now in
    let before = progress_of c.loop-a.progress in
    let after = progress_of c.relax_from.new.progress in
    let step = c.in_ok-relax_from.ensures.better in
    let both = improves_append first before after c.loop-a.invariant.better step in
    record {
      entries = c.in_ok-relax_from.ensures.entries;
      shape = c.in_ok-relax_from.ensures.shape;
      facts = c.in_ok-relax_from.ensures.facts;
      better = both;
      relaxed = λ i a below is. ⊎_elim
          (λ (earlier : i < c.loop-a.a-index). road_kept k (code base v state) part before after (road_code base 0 a.0 v state) step
          (c.loop-a.invariant.relaxed i a earlier is))
          (λ (here : get_or c.of-a-items.result.now c.loop-a.a-index no_arc ≡ a).
          subst (λ (b : ArcId). IsRoadRelaxed k after (code base v state) part (road_code base 0 b.0 v state)) here
          (way_relaxed k (code base v state) part after (road_code base 0 (get_or c.of-a-items.result.now c.loop-a.a-index no_arc).0 v state)
          c.drive_way-way.result (part_kept k (code base v state) part first after both c.requires.part) c.drive_way-way.ensures.road
          c.drive_way-way.ensures.barred c.in_ok-relax_from.ensures.relaxed))
          (earlier_or_next c.of-a-items.result.now c.loop-a.a-index i a no_arc below is);
    }

pub returns-clause-relaxed : goal.returns-clause-relaxed
returns-clause-relaxed g c = λ a small t y q is move.
    let task = c.args.task in
    let v : ℕ = c.args.info.node.0 in
    let state : ℕ = c.args.info.state in
    let node : v < base = omega (arith, c.requires.high, c.requires.asked.good.nodes) in
    let leaves = drive_leaves g.R.Ruler.ruling task v state node c.requires.asked a (point (code base v state) t y) q small refl move in
    let place = ends_place task.net.now Tail task.outgoing.now c.requires.asked.outgoing v c.of-a-items.result.now c.of-a-items.ensures a leaves in
    c.loop-a.invariant.relaxed place.0 (record { 0 = a }) (omega (arith, place.1, c.loop-a-test.false)) place.2 t y q is move
