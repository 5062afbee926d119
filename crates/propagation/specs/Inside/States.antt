-- The task and the progress that the code holds, and what its parts keep of each other (source: own; no law).
use Rattle.std.specs.Prelude.{◌≡◌, ◌⊎◌, ℕ, ◌≤◌, Bool, true, false, ◌||◌, Option, Some, None, List, length, All, IfSome, IsNone, slice_get}
use Rattle.route_base.specs.Itinerary.{Position, Drives}
use Rattle.route_base.specs.Net.{IsGoodArc, IsGoodNet, IsGoodPark, IsGoodRequest, at_number, park_at, setting_of}
use Rattle.route_base.specs.Legs.{CostsFit}
use Rattle.route_base.specs.Relaxing.{AreBounds}
use Rattle.route_base.specs.Runs.{any_has}
use Rattle.route_base.specs.declared.limits.TheConstants.{HIGHEST_COST}
use Rattle.route_base.specs.declared.types.Run.{Run}
use Rattle.cost_functions.specs.Building.{AreBuilt}
use Rattle.cost_functions.specs.Pieces.{value_at}
use Rattle.cost_functions.specs.declared.pieces.Piece.{Piece}
use Rattle.function_merge.specs.Least.{least_of, is_better}
use Rattle.label_queue.specs.Keys.{key_at, IsSet}
use Rattle.node_arcs.specs.Stars.{AreOutgoing, EndsAt}
use Rattle.node_arcs.specs.declared.links.End.TheVariants.{Tail}
use Rattle.potentials.specs.Sums.{bound_at}
use Rattle.propagation.specs.Found.{cost_at}
use Rattle.propagation.specs.Inside.Invariants.{Task, Progress, IsRelaxedIn, point}
use Rattle.propagation.specs.Inside.Pairs.{AreBorders}
use Rattle.propagation.specs.declared.ways.OutgoingArc.{OutgoingArc}
use Rattle.propagation.specs.declared.task.Task.{Task as TaskHeld}
use Rattle.propagation.specs.declared.progress.Progress.{Progress as ProgressHeld}

abbrev pub set_has : Option (List Run) → ℕ → Bool
set_has None t = false
set_has (Some set) t = any_has set t

-- whether a minute is pending at a node
abbrev pub is_pending : List (List Run) → ℕ → ℕ → Bool
is_pending sets v t = set_has (at_number sets v) t

abbrev pub progress_of : ProgressHeld → Progress
progress_of progress = record { cost = cost_at progress.functions.items; pending = is_pending progress.pending.items; pairs = progress.pairs.items }

abbrev pub task_of : TaskHeld → Task
task_of task = record { setting = setting_of task.net.now; request = task.request; bounds = bound_at task.bounds.now }

-- the net is well formed, the request is one over it, and the bounds and the arcs are those of the net
pub record IsGoodTask (task : TaskHeld) : Type 0 where
  pub good : IsGoodNet task.net.now
  pub ends : IsGoodRequest task.net.now task.request
  pub in_time : task.request.depart ≤ task.request.until
  pub fit : CostsFit (setting_of task.net.now) task.request
  pub bound : AreBounds (setting_of task.net.now) task.request.goal.0 (bound_at task.bounds.now)
  pub outgoing : AreOutgoing task.net.now task.outgoing.now

-- the arc is one of the net, it leaves node v, and its head has this bound and this park or none
pub record IsOutgoingArc (task : TaskHeld) (v : ℕ) (way : OutgoingArc) : Type 0 where
  pub is : at_number task.net.now.arcs way.id.0 ≡ Some way.arc
  pub good : IsGoodArc task.net.now way.arc
  pub begins : way.arc.tail.0 ≡ v
  pub bound : bound_at task.bounds.now way.arc.head.0 ≡ Some way.bound
  pub park : park_at task.net.now way.arc.head.0 ≡ way.park
  pub good_park : IfSome way.park (IsGoodPark task.net.now)

-- the arc is at some place of the list
abbrev pub HasArc : List OutgoingArc → ℕ → Type 0
HasArc ways a = (k : ℕ) × (way : OutgoingArc) × (slice_get ways k ≡ Some way) × (way.id.0 ≡ a)

-- all drives over the arc from the part's costs at node v are relaxed
abbrev pub IsArcRelaxed : TaskHeld → ProgressHeld → ℕ → List Piece → ℕ → Type 0
IsArcRelaxed task progress v part a = (t x : ℕ) (q : Position) → value_at part t ≡ Some x
    → Drives (setting_of task.net.now) task.request.until a (point v t x) q → IsRelaxedIn (task_of task) (progress_of progress) q

-- the arc is in the list, or relaxed
abbrev pub IsArcRead : TaskHeld → ProgressHeld → ℕ → List Piece → List OutgoingArc → ℕ → Type 0
IsArcRead task progress v part ways a = HasArc ways a ⊎ IsArcRelaxed task progress v part a

-- each arc that leaves node v is in the list, or relaxed
abbrev pub HasEachArc : TaskHeld → ProgressHeld → ℕ → List Piece → List OutgoingArc → Type 0
HasEachArc task progress v part ways = (a : ℕ) → EndsAt task.net.now Tail v a → IsArcRead task progress v part ways a

-- the arc is added to those of the list, or relaxed
pub record IsArcAdded (task : TaskHeld) (progress : ProgressHeld) (v : ℕ) (part : List Piece) (a : ℕ) (old new : List OutgoingArc) : Type 0 where
  pub here : IsArcRead task progress v part new a
  pub kept : (b : ℕ) → HasArc old b → HasArc new b

-- a place for each node, a key for each node with pending minutes but the one at work, and the borders of the pairs
pub record IsShaped (nodes at_work : ℕ) (progress : ProgressHeld) : Type 0 where
  pub functions : length progress.functions.items ≡ nodes
  pub built : All AreBuilt progress.functions.items
  pub pending : length progress.pending.items ≡ nodes
  pub queue : length progress.queue ≡ nodes
  pub queued : (v t : ℕ) → is_pending progress.pending.items v t ≡ true → (v ≡ at_work → ⊥) → (key : ℕ) × (key_at progress.queue v ≡ Some key)
  pub waiting : (v key : ℕ) → key_at progress.queue v ≡ Some key → (t : ℕ) × (is_pending progress.pending.items v t ≡ true)
  pub borders : AreBorders progress.pairs.items progress.borders.items

-- node h takes the lesser of its costs and the offered ones, which are better at some minutes
pub record IsLowered (h : ℕ) (offer : ℕ → Option ℕ) (better : ℕ → Bool) (old new : ℕ → ℕ → Option ℕ) : Type 0 where
  pub here : (t : ℕ) → new h t ≡ least_of (old h t) (offer t)
  pub others : (v t : ℕ) → (v ≡ h → ⊥) → new v t ≡ old v t
  pub improved : (t : ℕ) → better t ≡ is_better (old h t) (offer t)

-- no cost is above the highest
abbrev pub AreCostsSmall : (ℕ → ℕ → Option ℕ) → Type 0
AreCostsSmall cost = (v t x : ℕ) → cost v t ≡ Some x → x ≤ HIGHEST_COST

-- these minutes become pending at node h
pub record IsAwaited (h : ℕ) (more : ℕ → Bool) (old new : ℕ → ℕ → Bool) : Type 0 where
  pub here : (t : ℕ) → new h t ≡ (old h t || more t)
  pub others : (v t : ℕ) → (v ≡ h → ⊥) → new v t ≡ old v t

-- a part of what is pending at node v is taken from it, and next is the first minute of what is left
pub record IsSplit (v : ℕ) (taken : ℕ → Bool) (next : Option ℕ) (old new : ℕ → ℕ → Bool) : Type 0 where
  pub others : (u t : ℕ) → (u ≡ v → ⊥) → new u t ≡ old u t
  pub pending : (t : ℕ) → old v t ≡ true → (new v t ≡ true) ⊎ (taken t ≡ true)
  pub less : (t : ℕ) → new v t ≡ true → old v t ≡ true
  pub some : (t : ℕ) × (old v t ≡ true) × (new v t ≡ false)
  pub left : IfSome next (λ t. new v t ≡ true)
  pub none : IsNone next → (t : ℕ) → new v t ≡ false

-- the node is back in the queue, if minutes are left
abbrev pub IsRequeued : ℕ → Option ℕ → List (Option ℕ) → List (Option ℕ) → Type 0
IsRequeued v None old new = new ≡ old
IsRequeued v (Some t) old new = (key : ℕ) × IsSet old new v (Some key)
