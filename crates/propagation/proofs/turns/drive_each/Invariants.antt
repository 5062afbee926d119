use Rattle.std.proofs.Common.{◌≡◌, ◌<◌, ℕ, Some}
use Rattle.std.specs.Prelude.{slice_get}
use Rattle.route_base.specs.Itinerary.{Position, Drives}
use Rattle.route_base.specs.Net.{setting_of}
use Rattle.propagation.specs.Inside.EntrySets.{AreEntrySets}
use Rattle.propagation.proofs.turns.drive_each.Given as goal
use Rattle.cost_functions.specs.Pieces.{value_at}
use Rattle.propagation.specs.Inside.Invariants.{Improves, IsRelaxedIn, IsSearching, point}
use Rattle.propagation.specs.Inside.States.{IsShaped, progress_of, task_of}
use Rattle.propagation.specs.declared.ways.OutgoingArc.{OutgoingArc}

abbrev pub invariant-loop-way : goal.invariant-loop-way
invariant-loop-way l = record {
  entries : AreEntrySets l.task.net.now l.task.request.until l.sets;
  shape : IsShaped l.task.net.now.nodes 0 l.progress;
  facts : IsSearching (task_of l.task) (progress_of l.progress) l.fn.v.0 (value_at l.part);
  better : Improves (task_of l.task) (progress_of l.fn.progress) (progress_of l.progress);
  relaxed : (i : ℕ) (way : OutgoingArc) → i < l.way-index → slice_get l.ways i ≡ Some way → (t x : ℕ) (q : Position) → value_at l.part t ≡ Some x
      → Drives (setting_of l.task.net.now) l.task.request.until way.id.0 (point l.fn.v.0 t x) q → IsRelaxedIn (task_of l.task) (progress_of l.progress) q;
}
