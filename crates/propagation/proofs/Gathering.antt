-- The arcs of a turn, read one after another.
use Rattle.std.proofs.Common.{◌≡◌, inl, inr, ⊎_elim, ℕ, zero, suc, ◌<◌, Option, Some, None, List, [], ◌∷◌, ◌++◌, length, refl, sym, ◌∙◌, ap, subst, arith}
use Rattle.std.specs.Prelude.{slice_get}
use Rattle.route_base.specs.Itinerary.{Position, Drives}
use Rattle.route_base.specs.Net.{at_number, road_of, setting_of}
use Rattle.route_base.specs.Setting.{Road}
use Rattle.route_base.specs.declared.types.Bound.{Bound}
use Rattle.route_base.specs.declared.types.Pair.{Pair}
use Rattle.route_base.specs.declared.types.TimedArc.{TimedArc}
use Rattle.route_base.proofs.Items.{slice_get-append_left, slice_get-push_end}
use Rattle.route_base.proofs.Logic.{map_some}
use Rattle.cost_functions.specs.declared.pieces.Piece.{Piece}
use Rattle.potentials.specs.Sums.{bound_at}
use Rattle.propagation.specs.Inside.Invariants.{IsPrunable, IsWorseOrLate}
use Rattle.propagation.specs.Inside.States.{HasArc, IsArcRead, task_of}
use Rattle.propagation.specs.declared.progress.Progress.{Progress}
use Rattle.propagation.specs.declared.task.Task.{Task}
use Rattle.propagation.specs.declared.ways.OutgoingArc.{OutgoingArc}

pub item_within : (ways : List OutgoingArc) (k : ℕ) (way : OutgoingArc) → slice_get ways k ≡ Some way → k < length ways
item_within [] k way is = cc
item_within (w ∷ ways) zero way is = omega arith
item_within (w ∷ ways) (suc k) way is = omega (arith, item_within ways k way is)

-- an arc of the list is one of the longer list
pub kept_in : (ways : List OutgoingArc) (way : OutgoingArc) (b : ℕ) → HasArc ways b → HasArc (ways ++ way ∷ []) b
kept_in ways way b has = (
  has.0,
  has.1,
  slice_get-append_left ways (way ∷ []) has.0 (item_within ways has.0 has.1 has.2) ∙ has.2,
  has.3,
)

-- the arc that is added is one of the list
pub added_in : (ways : List OutgoingArc) (way : OutgoingArc) → HasArc (ways ++ way ∷ []) way.id.0
added_in ways way = (length ways, way, slice_get-push_end ways way, refl)

-- what was read stays read
pub still_read : (task : Task) (progress : Progress) (v : ℕ) (part : List Piece) (old new : List OutgoingArc) (b : ℕ)
    → ((c : ℕ) → HasArc old c → HasArc new c) → IsArcRead task progress v part old b → IsArcRead task progress v part new b
still_read task progress v part old new b kept read = ⊎_elim (λ (has : HasArc old b). inl (kept b has)) (λ done. inr done) read

-- a drive over an arc whose head has no bound needn't be followed
pub no_way_on : (task : Task) (pairs : List Pair) (a : ℕ) (p q : Position) → Drives (setting_of task.net.now) task.request.until a p q
    → ((arc : TimedArc) → at_number task.net.now.arcs a ≡ Some arc → bound_at task.bounds.now arc.head.0 ≡ None)
    → IsPrunable (task_of task) pairs q
no_way_on task pairs a p q step none =
    let arc = map_some (at_number task.net.now.arcs a) road_of step.road step.is in
    let node : q.node ≡ arc.0.head.0 = step.node ∙ sym (ap (λ (r : Road). r.head) arc.2) in
    let is : bound_at task.bounds.now q.node ≡ None = ap (bound_at task.bounds.now) node ∙ none arc.0 arc.1 in
    subst (λ (o : Option Bound). IsWorseOrLate task.request.until pairs o q) (sym is) tt
