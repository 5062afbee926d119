-- The search over the states of a ruler is one with dominance, and where it has ended the pairs are the front.
use Rattle.std.proofs.Common.{◌≡◌, ◌<◌, ◌≤◌, ℕ, false, Option, None, List, sym, ◌∙◌, subst, arith}
use Rattle.front_transport.specs.ParetoFronts.{IsParetoFront, ArrivesBefore}
use Rattle.front_transport.proofs.SameFronts.{same_front}
use Rattle.route_base.specs.Front.{IsNoWorse}
use Rattle.route_base.specs.Net.{setting_of}
use Rattle.route_base.specs.Setting.{Setting}
use Rattle.route_base.specs.declared.types.Bound.{Bound}
use Rattle.route_base.specs.declared.types.Pair.{Pair}
use Rattle.route_base.specs.declared.types.Request.{Request}
use Rattle.propagation.specs.Inside.Invariants.{IsBlank, IsWorseOrLate, Progress}
use Rattle.state_dominance.specs.Inside.Dominance.{IsSimulation, AreBoundsAlong, IsAchievedIn, IsResting}
use Rattle.state_dominance.specs.Inside.Product.{Ruler, AreLatest, AreRuledBounds, IsBase, IsSimulating, task_by_latest, task_over}
use Rattle.state_dominance.proofs.Finishing.{front}
use Rattle.state_dominance.proofs.Keeping.{blank_rests}
use Rattle.state_dominance.proofs.Simulating.{is_simulation, are_bounds}
use Rattle.ruled_states.specs.Inside.Codes.{base}
use Rattle.ruled_search.specs.Routes.{AreRoutesOf, IsFirstRuled, IsPlanned}
use Rattle.ruled_search.specs.Inside.Tasks.{latest_in, task_of, state_bound, IsGoodTask}
use Rattle.ruled_search.specs.declared.routes.RuledRoute.{RuledRoute}
use Rattle.ruled_search.specs.declared.task.Task.{Task as TaskHeld}
use Rattle.ruled_search.proofs.Reshaped.{bound_by_code}

module _ {R : Type 0} (ruling : R → Ruler) (task : TaskHeld R) (asked : IsGoodTask R ruling task) where
  pub simulates : IsSimulation (task_of R ruling task)
  simulates = is_simulation (setting_of task.net.now) (ruling task.ruler.now) base task.request.origin.0 task.request.goal.0 task.request.depart
      task.request.until (state_bound (ruling task.ruler.now) task.bounds.now) (latest_in R ruling task) asked.rules asked.numbers asked.bound
      asked.latest

  pub bounds_along : AreBoundsAlong (task_of R ruling task)
  bounds_along = are_bounds (setting_of task.net.now) (ruling task.ruler.now) base task.request.origin.0 task.request.goal.0 task.request.depart
      task.request.until (state_bound (ruling task.ruler.now) task.bounds.now) (latest_in R ruling task) asked.rules asked.numbers asked.bound
      asked.latest

  -- where the start has no bound nothing is at work
  pub unbound_rests : (now : Progress) → IsBlank now
      → state_bound (ruling task.ruler.now) task.bounds.now task.request.origin.0 (ruling task.ruler.now).first ≡ None → IsResting (task_of R ruling task) now
  unbound_rests now blank none =
      let small : task.request.origin.0 < base = omega (arith, asked.ends.origin.1, asked.good.nodes) in
      let here = bound_by_code (state_bound (ruling task.ruler.now) task.bounds.now) task.request.origin.0 (ruling task.ruler.now).first small in
      blank_rests (task_of R ruling task) now simulates bounds_along blank
      (subst (λ o. IsWorseOrLate ((task_of R ruling task).latest (task_of R ruling task).start.node) now.pairs o (task_of R ruling task).start) (sym (here ∙ none)) tt)

-- the latest minutes of states only say where the search may stop: the steps, the pairs and the first walks are those without them
module _ (s : Setting) (r : Ruler) (base origin goal depart until : ℕ) (bound : ℕ → ℕ → Option Bound) (latest : ℕ → ℕ) where
  achieved_over : (p : Pair) → IsAchievedIn (task_by_latest s r base origin goal depart until bound latest) p
      → IsAchievedIn (task_over s r base origin goal depart until bound) p
  achieved_over p can = record { node = can.node; goal = can.goal; reached = can.reached }

  achieved_by : (p : Pair) → IsAchievedIn (task_over s r base origin goal depart until bound) p
      → IsAchievedIn (task_by_latest s r base origin goal depart until bound latest) p
  achieved_by p can = record { node = can.node; goal = can.goal; reached = can.reached }

  front_over : (pairs : List Pair)
      → IsParetoFront IsNoWorse ArrivesBefore (IsAchievedIn (task_by_latest s r base origin goal depart until bound latest)) pairs
      → IsParetoFront IsNoWorse ArrivesBefore (IsAchievedIn (task_over s r base origin goal depart until bound)) pairs
  front_over = same_front IsNoWorse ArrivesBefore (IsAchievedIn (task_by_latest s r base origin goal depart until bound latest))
      (IsAchievedIn (task_over s r base origin goal depart until bound)) achieved_over achieved_by

  first_over : (route : RuledRoute) → IsFirstRuled (task_by_latest s r base origin goal depart until bound latest) base route
      → IsFirstRuled (task_over s r base origin goal depart until bound) base route
  first_over route first = record {
    achieves = record {
      node = first.achieves.node;
      goal = first.achieves.goal;
      steps = first.achieves.steps;
      walk = first.achieves.walk;
      tells = first.achieves.tells;
    };
    first = first.first;
  }

-- where nothing is pending the pairs are the front
pub planned : (s : Setting) (r : Ruler) (request : Request) (bound : ℕ → ℕ → Option Bound) (latest : ℕ → ℕ) → IsSimulating r → IsBase s r base
    → AreRuledBounds s r request.goal.0 bound → AreLatest r request.until bound latest → request.depart ≤ request.until → (now : Progress)
    → (routes : List RuledRoute)
    → IsResting (task_by_latest s r base request.origin.0 request.goal.0 request.depart request.until bound latest) now
    → ((c t : ℕ) → now.pending c t ≡ false)
    → AreRoutesOf (task_by_latest s r base request.origin.0 request.goal.0 request.depart request.until bound latest) base now.pairs routes
    → IsPlanned s r base request routes
planned s r request bound latest sim numbers bounds minutes in_time now routes facts done are =
    let origin : ℕ = request.origin.0 in
    let end : ℕ = request.goal.0 in
    let k = task_by_latest s r base origin end request.depart request.until bound latest in
    let pairs = front_over s r base origin end request.depart request.until bound latest now.pairs
    (front k now (is_simulation s r base origin end request.depart request.until bound latest sim numbers bounds minutes)
    (are_bounds s r base origin end request.depart request.until bound latest sim numbers bounds minutes) facts done in_time) in
    let first : (route : RuledRoute) → IsFirstRuled k base route
    → IsFirstRuled (task_over s r base origin end request.depart request.until bound) base route =
    first_over s r base origin end request.depart request.until bound latest in
    record {
      bound = bound;
      front = subst (λ (ps : List Pair). IsParetoFront IsNoWorse ArrivesBefore
          (IsAchievedIn (task_over s r base origin end request.depart request.until bound)) ps) (sym are.same) pairs;
      legs = λ i d within. (first _ (are.legs i d within)).achieves;
      first = λ i d within. first _ (are.legs i d within);
    }
