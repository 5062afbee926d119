use Rattle.std.proofs.Common.{◌≡◌, ⊎_elim, ◌<◌, ◌≤◌, ℕ, List, length, ap, subst, arith}
use Rattle.std.specs.Prelude.{slice_get}
use Rattle.std.proofs.lemmas.Bool.{cases_lt}
use Rattle.std.proofs.lemmas.Option.{slice_get_past}
use Rattle.cost_functions.specs.Pieces.{value_at}
use Rattle.state_dominance.specs.Inside.Product.{code, road_code}
use Rattle.ruled_states.specs.Inside.Codes.{base}
use Rattle.ruled_search.specs.Inside.Tasks.{task_of, progress_of, IsRoadRelaxed}
use Rattle.ruled_search.proofs.Relaxed.{improves_append, no_road, part_kept, road_kept, way_relaxed}
use Rattle.route_base.specs.Net.{setting_of}
use Rattle.ruled_search.proofs.Turning.{no_rest_place}
use Rattle.ruled_search.proofs.Leaving.{no_road_by}
use Rattle.ruled_search.proofs.turns.rest_each.Goals as goal

pub relax_from-requires-clause-part : goal.relax_from-requires-clause-part
relax_from-requires-clause-part g c = part_kept (task_of _ g.R.Ruler.ruling c.args.task) (code base c.args.info.node.0 c.args.info.state)
    (value_at c.args.part.now) (progress_of c.args.progress.now) (progress_of c.loop-i.progress) c.loop-i.invariant.better c.requires.part

pub loop-i-preserved : goal.loop-i-preserved
loop-i-preserved g c =
    let k = task_of _ g.R.Ruler.ruling c.args.task in
    let v : ℕ = c.args.info.node.0 in
    let state : ℕ = c.args.info.state in
    let part = value_at c.args.part.now in
    let first = progress_of c.args.progress.now in
    let before = progress_of c.loop-i.progress in
    let after = progress_of c.relax_from.new.progress in
    let step = c.in_ok-relax_from.ensures.better in
    let both = improves_append first before after c.loop-i.invariant.better step in
    record {
      entries = c.in_ok-relax_from.ensures.entries;
      shape = c.in_ok-relax_from.ensures.shape;
      facts = c.in_ok-relax_from.ensures.facts;
      better = both;
      relaxed = λ j below. ⊎_elim
          (λ (earlier : j < c.loop-i.i). road_kept k (code base v state) part before after (road_code base 1 j v state) step
          (c.loop-i.invariant.relaxed j earlier))
          (λ (late : c.loop-i.i ≤ j).
          let same : c.loop-i.i ≡ j = omega (arith, late, below) in
          subst (λ n. IsRoadRelaxed k after (code base v state) part (road_code base 1 n v state)) same
          (way_relaxed k (code base v state) part after (road_code base 1 c.loop-i.i v state) c.rest_way-way.result
          (part_kept k (code base v state) part first after both c.requires.part) c.rest_way-way.ensures.road c.rest_way-way.ensures.barred
          c.in_ok-relax_from.ensures.relaxed))
          (cases_lt j c.loop-i.i);
    }

pub returns-clause-relaxed : goal.returns-clause-relaxed
returns-clause-relaxed g c = λ j small.
    let task = c.args.task in
    let v : ℕ = c.args.info.node.0 in
    let state : ℕ = c.args.info.state in
    let r = g.R.Ruler.ruling task.ruler.now in
    let node : v < base = omega (arith, c.requires.high, c.requires.asked.good.nodes) in
    ⊎_elim
    (λ (there : j < length r.rests). c.loop-i.invariant.relaxed j
    (omega (arith, there, c.loop-i-test.false, ap (λ (w : List ℕ). length w) c.rests-rests.ensures)))
    (λ (past : length r.rests ≤ j). no_road (task_of _ g.R.Ruler.ruling task) (code base v state) (value_at c.args.part.now)
    (progress_of c.loop-i.progress) (road_code base 1 j v state)
    (no_road_by g.R.Ruler.ruling task v state node 1 j (omega arith) small
    (no_rest_place r v state (slice_get r.rests j) ((setting_of task.net.now).weight v) (slice_get_past r.rests j past))))
    (cases_lt j (length r.rests))
