-- Each position of each lawful itinerary that ends with the label of the goal has its cost as label.
use Rattle.std.proofs.Common.{◌≡◌, ⊎_elim, ℕ, ◌+◌, ◌≤◌, ◌<◌, Some, None, refl, ◌∷◌, [], ◌++◌, sym, ◌∙◌, ap, subst, arith}
use Rattle.std.proofs.lemmas.Bool.{cases_lt, cond_below, cond_above}
use Rattle.std.proofs.lemmas.Option.{same_Some}
use Rattle.route_base.specs.Setting.{Setting, Road}
use Rattle.route_base.specs.Itinerary.{Position, Step, drive, wait, Moves}
use Rattle.route_base.specs.Legs.{start_of, end_of, CostsFit, IsReachable}
use Rattle.route_base.specs.declared.types.Pair.{Pair}
use Rattle.route_base.specs.declared.types.Request.{Request}
use Rattle.route_base.proofs.Waiting.{same_position}
use Rattle.route_base.proofs.Walking.{along, cheaper, walk-push}
use Rattle.route_base.specs.StepsBack.{HasWaysTo, HasNoMove}
use Rattle.plain_search.specs.Inside.Costs.{none, at, value_of, ComesBySteps, IsRelaxedBefore}
use Rattle.plain_search.proofs.Reading.{bounded_at}

module _ (cost : ℕ → ℕ → ℕ) where
  value_is : (v t x : ℕ) → cost v t ≡ x → x < none → value_of cost v t ≡ Some x
  value_is v t x same less = sym (cond_below (cost v t) none (Some (cost v t)) None (omega (arith, same, less))) ∙ ap (λ n. Some n) same

  label_is : (v t x : ℕ) → value_of cost v t ≡ Some x → (cost v t ≡ x) × (x < none)
  label_is v t x is = ⊎_elim
      (λ (less : cost v t < none).
      let e : Some (cost v t) ≡ Some x = cond_below (cost v t) none (Some (cost v t)) None less ∙ is in
      let same : cost v t ≡ x = cc in
      (same, omega (arith, same, less)))
      (λ (more : none ≤ cost v t). let bad : None ≡ Some x = cond_above (cost v t) none (Some (cost v t)) None None more refl ∙ is in cc)
      (cases_lt (cost v t) none)

  -- steps from labels are those from values
  pub no_move : (s : Setting) (until : ℕ) (x : Step) (p : Position)
      → ((u k : ℕ) → cost u k < none → Moves s until x (at cost u k) p → ⊥) → HasNoMove s until (value_of cost) x p
  no_move s until x p nowhere q is move =
      let label = label_is q.node q.minute q.cost is in
      nowhere q.node q.minute (omega (arith, label.0, label.1))
      (subst (λ (w : Position). Moves s until x w p) (same_position q (at cost q.node q.minute) refl refl (sym label.0)) move)

-- a step from a lower cost ends at a lower cost
step_lower : (s : Setting) (until : ℕ) (x : Step) (p q : Position) (least : ℕ) → least < p.cost → Moves s until x p q
    → (c : ℕ) × (c < q.cost) × Moves s until x (record { node = p.node; minute = p.minute; cost = least })
    (record { node = q.node; minute = q.minute; cost = c })
step_lower s until (drive a) p q least less move =
    let low = cheaper s until (drive a) p q least (omega (arith, less)) move in
    let same : low.2.road ≡ move.road = same_Some low.2.road move.road (sym low.2.is ∙ move.is) in
    (low.0, omega (arith, less, low.2.cost, move.cost, ap (λ (w : Road). w.cost) same), low.2)
step_lower s until wait p q least less move =
    let low = cheaper s until wait p q least (omega (arith, less)) move in
    let same : low.2.weight ≡ move.weight = same_Some low.2.weight move.weight (sym low.2.rated ∙ move.rated) in
    (low.0, omega (arith, less, low.2.cost, move.cost, same), low.2)

module _ (s : Setting) (r : Request) (cost : ℕ → ℕ → ℕ) (now : ℕ) (fit : CostsFit s r) (founded : ComesBySteps s r cost now)
    (done : IsRelaxedBefore s r.until cost (r.until + 1)) where
  -- a walk leads to the position, whose label is lower than the cost
  record IsDear (p : Position) : Type 0 where
    pub reach : IsReachable s r p
    pub lower : cost p.node p.minute < p.cost

  dear_on : (x : Step) (p q : Position) → IsDear p → Moves s r.until x p q → IsDear q
  dear_on x p q here move =
      let less = step_lower s r.until x p q (cost p.node p.minute) here.lower move in
      let known : cost p.node p.minute < none = omega (arith, here.lower, fit here.reach.0 p here.reach.1) in
      let lands = done x p.node p.minute (in_time x move) known (record { node = q.node; minute = q.minute; cost = less.0 }) less.2 in
      record {
        reach = (here.reach.0 ++ x ∷ [], walk-push s r.until here.reach.0 x (start_of r) p q here.reach.1 move);
        lower = omega (arith, lands, less.1);
      }
    where
      in_time : (y : Step) → Moves s r.until y p q → p.minute < r.until + 1
      in_time (drive a) m = omega (arith, m.in_time)
      in_time wait m = omega (arith, m.in_time)

  pub ways_to : (pair : Pair) → pair.cost ≡ cost r.goal.0 pair.arrival → HasWaysTo s r pair (value_of cost)
  ways_to pair exact before after p to_p from_p =
      let bounded = bounded_at s r cost now fit founded done before p to_p in
      ⊎_elim
      (λ (low : cost p.node p.minute < p.cost).
      let end = along s r.until IsDear dear_on after p (end_of r pair) (record { reach = (before, to_p); lower = low }) from_p in
      absurd (omega (arith, end.lower, exact)))
      (λ (high : p.cost ≤ cost p.node p.minute). value_is cost p.node p.minute p.cost (omega (arith, high, bounded.within))
      (omega (arith, fit before p to_p)))
      (cases_lt (cost p.node p.minute) p.cost)
