-- The task and the progress that the code holds, and what its parts keep of each other (source: own; no law).
use Rattle.std.specs.Prelude.{◌≡◌, ◌⊎◌, ℕ, suc, ◌*◌, ◌≤◌, ◌<◌, true, false, Option, Some, None, List, length, All}
use Rattle.route_base.specs.Itinerary.{Position, Drives}
use Rattle.route_base.specs.Net.{IsGoodNet, IsGoodRequest, setting_of}
use Rattle.route_base.specs.Relaxing.{HasWithin, HasPair}
use Rattle.route_base.specs.declared.types.Bound.{Bound}
use Rattle.route_base.specs.declared.types.Pair.{Pair}
use Rattle.cost_functions.specs.Building.{AreBuilt}
use Rattle.label_queue.specs.Keys.{key_at}
use Rattle.node_arcs.specs.Stars.{AreOutgoing}
use Rattle.propagation.specs.Inside.Invariants.{Progress, point, IsLabel, IsLower}
use Rattle.propagation.specs.Inside.Pairs.{AreBorders}
use Rattle.propagation.specs.Inside.States.{is_pending}
use Rattle.propagation.specs.Inside.Measures.{work}
use Rattle.state_dominance.specs.Inside.Dominance.{Task, IsPrunable, IsRelaxedIn, Reaches}
use Rattle.state_dominance.specs.Inside.Product.{Ruler, HasBest, IsSimulating, IsStaged, IsBase, AreLatest, AreRuledBounds, code, road_code, task_by_latest}
use Rattle.ruled_states.specs.Inside.Codes.{base, found_by}
use Rattle.ruled_states.specs.Inside.Labels.{label_bound, lists_of}
use Rattle.ruled_states.specs.Inside.Latest.{latest_by}
use Rattle.ruled_states.specs.Inside.Reduced.{HoldsReduced}
use Rattle.ruled_states.specs.Inside.Tables.{IsStateOf}
use Rattle.ruled_states.specs.declared.labels.Labels.{Labels}
use Rattle.ruled_states.specs.declared.table.Info.{Info}
use Rattle.ruled_search.specs.Routes.{RuledCostsFit}
use Rattle.ruled_search.specs.declared.task.Task.{Task as TaskHeld}
use Rattle.ruled_search.specs.declared.progress.Progress.{Progress as ProgressHeld}

-- the bound of a state at a node: that of the labels, or nothing for each state where there are none
abbrev pub state_bound : Ruler → Option Labels → ℕ → ℕ → Option Bound
state_bound r None v k = Some (record { minutes = 0; cost = 0 })
state_bound r (Some labels) v k = label_bound r (lists_of labels.minutes.items) (lists_of labels.costs.items) v k

-- the latest minute of each state
abbrev pub latest_in : (R : Type 0) → (R → Ruler) → TaskHeld R → ℕ → ℕ
latest_in R ruling task = latest_by (ruling task.ruler.now) task.latest.now task.request.until

-- the task that the code holds, as one over states
abbrev pub task_of : (R : Type 0) → (R → Ruler) → TaskHeld R → Task
task_of R ruling task = task_by_latest (setting_of task.net.now) (ruling task.ruler.now) base task.request.origin.0 task.request.goal.0
    task.request.depart task.request.until (state_bound (ruling task.ruler.now) task.bounds.now) (latest_in R ruling task)

-- what the code has found, by code
abbrev pub progress_of : ProgressHeld → Progress
progress_of progress = found_by progress.table.infos progress.functions.items progress.pending.items progress.pairs.items

-- the net is well formed, the request is one over it, whose costs fit, and the ruler, the bounds, the latest minutes and the arcs are right
pub record IsGoodTask (R : Type 0) (ruling : R → Ruler) (task : TaskHeld R) : Type 0 where
  pub good : IsGoodNet task.net.now
  pub ends : IsGoodRequest task.net.now task.request
  pub in_time : task.request.depart ≤ task.request.until
  pub fit : RuledCostsFit (setting_of task.net.now) (ruling task.ruler.now) base task.request
  pub rules : IsSimulating (ruling task.ruler.now)
  pub stages : IsStaged (ruling task.ruler.now)
  pub best : HasBest (ruling task.ruler.now)
  pub numbers : IsBase (setting_of task.net.now) (ruling task.ruler.now) base
  pub bound : AreRuledBounds (setting_of task.net.now) (ruling task.ruler.now) task.request.goal.0 (state_bound (ruling task.ruler.now) task.bounds.now)
  pub latest : AreLatest (ruling task.ruler.now) task.request.until (state_bound (ruling task.ruler.now) task.bounds.now) (latest_in R ruling task)
  pub outgoing : AreOutgoing task.net.now task.outgoing.now
  pub reduced : HoldsReduced (setting_of task.net.now) (ruling task.ruler.now) task.reduced.now

-- a state in the table: its node is one of the net, and its bound is the one it has by the bounds
pub record IsGoodInfo (nodes : ℕ) (bounds : ℕ → ℕ → Option Bound) (info : Info) : Type 0 where
  pub node : (1 ≤ info.node.0) × (info.node.0 ≤ nodes)
  pub bound : bounds info.node.0 info.state ≡ Some info.bound

-- a place for each state, a key for each state with pending minutes but the one at work, and the borders of the pairs
pub record IsShaped (nodes : ℕ) (bound : ℕ → ℕ → Option Bound) (at_work : ℕ) (progress : ProgressHeld) : Type 0 where
  pub functions : length progress.functions.items ≡ length progress.table.infos
  pub built : All AreBuilt progress.functions.items
  pub pending : length progress.pending.items ≡ length progress.table.infos
  pub room : length progress.table.infos ≤ progress.room
  pub queue : length progress.queue ≡ progress.room
  pub rows : progress.table.rows ≡ suc nodes
  pub infos : All (IsGoodInfo nodes bound) progress.table.infos
  pub distinct : (v k n m : ℕ) → IsStateOf progress.table.infos v k n → IsStateOf progress.table.infos v k m → n ≡ m
  pub queued : (n t : ℕ) → is_pending progress.pending.items n t ≡ true → (n ≡ at_work → ⊥) → (key : ℕ) × (key_at progress.queue n ≡ Some key)
  pub waiting : (n key : ℕ) → key_at progress.queue n ≡ Some key → (t : ℕ) × (is_pending progress.pending.items n t ≡ true)
  pub borders : AreBorders progress.pairs.items progress.borders.items

-- the same for the task that the code holds
abbrev pub IsShapedFor : (R : Type 0) → (R → Ruler) → TaskHeld R → ℕ → ProgressHeld → Type 0
IsShapedFor R ruling task at_work progress =
    IsShaped task.net.now.nodes (state_bound (ruling task.ruler.now) task.bounds.now) at_work progress

-- costs only fall; what becomes pending has fallen; no pair is lost but to one that is no worse
pub record Improves (old new : Progress) : Type 0 where
  pub less : (p : Position) → IsLabel old p → HasWithin new.cost p
  pub cause : (c t : ℕ) → new.pending c t ≡ true → (old.pending c t ≡ true) ⊎ IsLower (new.cost c t) (old.cost c t)
  pub pairs : (t x : ℕ) → HasPair old.pairs t x → HasPair new.pairs t x

-- a minute that was pending at the code is so no more: by it the search ends
pub record HasLeft (c : ℕ) (old new : Progress) : Type 0 where
  pub minute : ℕ
  pub was : old.pending c minute ≡ true
  pub is_no_more : new.pending c minute ≡ false

-- how much is left to do, over the codes of all states that numbers of 64 bits have
abbrev pub work_of : ℕ → Progress → ℕ
work_of until now = work (base * base) until now

-- each drive of the part at code c over road x is relaxed
abbrev pub IsRoadRelaxed : Task → Progress → ℕ → (ℕ → Option ℕ) → ℕ → Type 0
IsRoadRelaxed k now c part x = (t y : ℕ) (q : Position) → part t ≡ Some y → Drives k.setting k.until x (point c t y) q → IsRelaxedIn k now q

-- whatever the pairs, each drive over road x from what is reached at code c leads to what is prunable
abbrev pub IsBarred : Task → ℕ → ℕ → Type 0
IsBarred k c x = (pairs : List Pair) (p q : Position) → p.node ≡ c → Reaches k p → Drives k.setting k.until x p q → IsPrunable k pairs q

-- each drive of the part at a state is relaxed over each road of this kind, over whatever arc, rest or service
abbrev pub IsKindRelaxed : Task → Progress → (ℕ → Option ℕ) → ℕ → ℕ → ℕ → Type 0
IsKindRelaxed k now part kind v state = (a : ℕ) → a < base → IsRoadRelaxed k now (code base v state) part (road_code base kind a v state)
