use Rattle.std.proofs.Common.{◌<◌, ℕ, ◌≡◌, Some}
use Rattle.std.specs.Prelude.{slice_get}
use Rattle.route_base.specs.declared.types.ArcId.{ArcId}
use Rattle.cost_functions.specs.Pieces.{value_at}
use Rattle.propagation.specs.Inside.EntrySets.{AreEntrySets}
use Rattle.state_dominance.specs.Inside.Dominance.{IsSearching}
use Rattle.state_dominance.specs.Inside.Product.{code, road_code}
use Rattle.ruled_states.specs.Inside.Codes.{base}
use Rattle.ruled_search.specs.Inside.Tasks.{task_of, progress_of, Improves, IsRoadRelaxed, IsShapedFor}
use Rattle.ruled_search.proofs.turns.drive_each.Given as goal

abbrev pub invariant-loop-a : goal.invariant-loop-a
invariant-loop-a g l = record {
  entries : AreEntrySets l.task.net.now l.task.request.until l.tools.sets;
  shape : IsShapedFor _ g.R.Ruler.ruling l.task 0 l.progress;
  facts : IsSearching (task_of _ g.R.Ruler.ruling l.task) (progress_of l.progress) (code base l.info.node.0 l.info.state) (value_at l.part);
  better : Improves (progress_of l.fn.progress) (progress_of l.progress);
  relaxed : (i : ℕ) (a : ArcId) → i < l.a-index → slice_get l.a-items i ≡ Some a → IsRoadRelaxed (task_of _ g.R.Ruler.ruling l.task) (progress_of l.progress) (code base l.info.node.0 l.info.state)
      (value_at l.part) (road_code base 0 a.0 l.info.node.0 l.info.state);
}
