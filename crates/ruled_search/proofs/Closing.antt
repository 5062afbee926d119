-- What the task says of a code is what it says of its node and its state; and an offer with waits is closed.
use Rattle.std.proofs.Common.{◌≡◌, inl, inr, ℕ, ◌-◌, ◌/◌, ◌<◌, Bool, false, Option, Some, None, List, refl, sym, ◌∙◌, ap, subst}
use Rattle.std.specs.Prelude.{nat_eq, ◌&&◌}
use Rattle.std.specs.Option.{option_map}
use Rattle.std.proofs.lemmas.Bool.{eq-eqb, ne_eqb}
use Rattle.route_base.specs.Net.{park_at, setting_of}
use Rattle.route_base.specs.declared.types.Bound.{Bound}
use Rattle.route_base.specs.declared.types.Pair.{Pair}
use Rattle.route_base.specs.declared.types.Park.{Park}
use Rattle.propagation.specs.Inside.Offers.{IsWaited}
use Rattle.state_dominance.specs.Inside.Product.{Ruler, code}
use Rattle.state_dominance.specs.Inside.Widening.{IsCleared, IsClosed}
use Rattle.ruled_states.specs.Inside.Codes.{base}
use Rattle.ruled_search.specs.Inside.Tasks.{latest_in, task_of, state_bound}
use Rattle.ruled_search.specs.declared.task.Task.{Task as TaskHeld}
use Rattle.ruled_search.proofs.Made.{node_of, state_of}

module _ {R : Type 0} (ruling : R → Ruler) (task : TaskHeld R) (v k : ℕ) (small : v < base) where
  pub bound_by_code : (task_of R ruling task).bounds (code base v k) ≡ state_bound (ruling task.ruler.now) task.bounds.now v k
  bound_by_code = ap (λ n. state_bound (ruling task.ruler.now) task.bounds.now n (code base v k / base)) (node_of base v k small)
      ∙ ap (state_bound (ruling task.ruler.now) task.bounds.now v) (state_of base v k small)

  pub latest_by_code : (task_of R ruling task).latest (code base v k) ≡ latest_in R ruling task k
  latest_by_code = ap (latest_in R ruling task) (state_of base v k small)

  pub weight_by_code : (task_of R ruling task).setting.weight (code base v k) ≡ (setting_of task.net.now).weight v
  weight_by_code = ap (λ n. (setting_of task.net.now).weight n) (node_of base v k small)

  pub shut_by_code : (task_of R ruling task).setting.wait_shut (code base v k) ≡ (setting_of task.net.now).wait_shut v
  shut_by_code = ap (λ n. (setting_of task.net.now).wait_shut n) (node_of base v k small)

  pub goal_by_code : (task_of R ruling task).goal (code base v k) ≡ (nat_eq v task.request.goal.0 && (ruling task.ruler.now).ends k)
  goal_by_code = ap (λ n. nat_eq n task.request.goal.0 && (ruling task.ruler.now).ends (code base v k / base)) (node_of base v k small)
      ∙ ap (λ n. nat_eq v task.request.goal.0 && (ruling task.ruler.now).ends n) (state_of base v k small)

  -- at a node without a rating
  pub closed_unrated : (pairs : List Pair) (clear : ℕ → Option ℕ) → park_at task.net.now v ≡ None
      → IsClosed (task_of R ruling task) pairs (code base v k) clear clear
  closed_unrated pairs clear none = inl (weight_by_code ∙ ap (option_map (λ (park : Park). park.weight)) none, λ t. refl)

  -- at a rated node
  pub closed_rated : (pairs : List Pair) (park : Park) (bound : Bound) (last : ℕ) (clear waits wide : ℕ → Option ℕ) → park_at task.net.now v ≡ Some park
      → state_bound (ruling task.ruler.now) task.bounds.now v k ≡ Some bound → last ≡ latest_in R ruling task k - bound.minutes
      → IsWaited clear waits ((task_of R ruling task).setting.wait_shut (code base v k)) park.weight last
      → IsCleared (task_of R ruling task) pairs (code base v k) waits wide → IsClosed (task_of R ruling task) pairs (code base v k) clear wide
  closed_rated pairs park bound last clear waits wide rated is upto waited cleared = inr (
    park.weight,
    record {
      bound = bound;
      has_bound = bound_by_code ∙ is;
      rated = weight_by_code ∙ ap (option_map (λ (w : Park). w.weight)) rated;
      waits = waits;
      waited = subst (λ n. IsWaited clear waits ((task_of R ruling task).setting.wait_shut (code base v k)) park.weight n)
          (upto ∙ ap (λ n. n - bound.minutes) (sym latest_by_code)) waited;
      cleared = cleared;
    },
  )

  -- whether a trip may end in the state of the node
  pub goal_other : (v ≡ task.request.goal.0 → ⊥) → ◌≡◌ {A = Bool} false ((task_of R ruling task).goal (code base v k))
  goal_other other = sym (goal_by_code ∙ ap (λ b. b && (ruling task.ruler.now).ends k) (ne_eqb v task.request.goal.0 other))

  pub goal_here : v ≡ task.request.goal.0 → (ruling task.ruler.now).ends k ≡ (task_of R ruling task).goal (code base v k)
  goal_here same = sym (goal_by_code ∙ ap (λ b. b && (ruling task.ruler.now).ends k) (eq-eqb v task.request.goal.0 same))
