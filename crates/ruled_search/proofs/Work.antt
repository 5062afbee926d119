-- Each turn leaves less to do.
use Rattle.std.proofs.Common.{◌≡◌, ◌≤◌, ◌<◌, ◌*◌, ℕ, true, Option, Some, arith}
use Rattle.route_base.specs.declared.limits.TheConstants.{HIGHEST_COST}
use Rattle.route_base.proofs.Walking.{walk_in_time}
use Rattle.propagation.specs.Inside.Invariants.{Progress, point}
use Rattle.propagation.specs.Inside.Measures.{work}
use Rattle.propagation.proofs.Measuring.{improves_falls, parts_fall}
use Rattle.state_dominance.specs.Inside.Dominance.{IsSearching}
use Rattle.state_dominance.specs.Inside.Product.{Ruler}
use Rattle.state_dominance.specs.Inside.Taking.{TakesPart}
use Rattle.ruled_states.specs.Inside.Codes.{base}
use Rattle.ruled_search.specs.Inside.Tasks.{task_of, work_of, HasLeft, Improves, IsGoodTask}
use Rattle.ruled_search.specs.declared.task.Task.{Task as TaskHeld}

falls : (nodes until : ℕ) (old between new : Progress) (c : ℕ) → c ≤ nodes → ((v t : ℕ) → between.cost v t ≡ old.cost v t)
    → ((v t : ℕ) → between.pending v t ≡ true → old.pending v t ≡ true) → (left : HasLeft c old between) → left.minute ≤ until → Improves between new
    → ((v t x : ℕ) → new.cost v t ≡ Some x → x ≤ HIGHEST_COST) → work nodes until new < work nodes until old
falls nodes until old between new c within cost less left early better small =
    let first = parts_fall nodes until old between cost less c left.minute left.was left.is_no_more within early in
    let rest = improves_falls nodes until between new better.less better.cause small in
    omega (arith, first, rest)

module _ {R : Type 0} (ruling : R → Ruler) (task : TaskHeld R) (asked : IsGoodTask R ruling task) where
  -- what is pending is in time
  pub pending_early : (now : Progress) (v : ℕ) (part : ℕ → Option ℕ) → IsSearching (task_of R ruling task) now v part
      → (c t : ℕ) → now.pending c t ≡ true → t ≤ task.request.until
  pending_early now v part facts c t is =
      let x = facts.known c t is in
      let r = facts.reached (point c t x.0) x.1 in
      walk_in_time (task_of R ruling task).setting task.request.until r.0 (task_of R ruling task).start (point c t x.0) asked.in_time r.1

  pub small_costs : (now : Progress) (v : ℕ) (part : ℕ → Option ℕ) → IsSearching (task_of R ruling task) now v part
      → (c t x : ℕ) → now.cost c t ≡ Some x → x ≤ HIGHEST_COST
  small_costs now v part facts c t x is = let r = facts.reached (point c t x) is in asked.fit r.0 (point c t x) r.1

  pub turn_falls : (old between new : Progress) (c : ℕ) (part : ℕ → Option ℕ) (v w : ℕ) (last first : ℕ → Option ℕ) → c ≤ base * base
      → IsSearching (task_of R ruling task) old v first → TakesPart (task_of R ruling task) c part old between → HasLeft c old between
      → Improves between new → IsSearching (task_of R ruling task) new w last → work_of task.request.until new < work_of task.request.until old
  turn_falls old between new c part v w last first within facts parts left better after =
      falls (base * base) task.request.until old between new c within parts.cost parts.less left
      (pending_early old v first facts c left.minute left.was) better (small_costs new w last after)
