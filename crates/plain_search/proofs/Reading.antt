-- The goal's column, read minute by minute.
use Rattle.std.proofs.Common.{◌≡◌, ⊎_elim, ℕ, ◌+◌, ◌≤◌, ◌<◌, List, [], ◌∷◌, ◌++◌, refl, sym, ap, subst, arith}
use Rattle.std.specs.Prelude.{All, Contains}
use Rattle.std.proofs.lemmas.Bool.{cases_lt}
use Rattle.std.proofs.lemmas.List.{map-append}
use Rattle.std.proofs.lemmas.List.Elements.{All-push, All-weaker, All-map, All-contains, Contains-push, Contains-append_left}
use Rattle.std.proofs.lemmas.List.Quantifiers.{all_pairs_push}
use Rattle.route_base.specs.Setting.{Setting}
use Rattle.route_base.specs.Itinerary.{Position, Step, drive, wait, Moves, Walks}
use Rattle.route_base.specs.Legs.{start_of, end_of, Achieves, HasNoNeighbouringWaits, CostsFit, steps_of}
use Rattle.route_base.specs.Front.{Trades, RiseAndFall, IsAchieved, IsRight, pairs_of}
use Rattle.route_base.specs.Relaxing.{HasPair}
use Rattle.route_base.specs.declared.types.Pair.{Pair}
use Rattle.route_base.specs.declared.types.Route.{Route}
use Rattle.route_base.specs.declared.types.Request.{Request}
use Rattle.route_base.proofs.Walking.{along, walk-push, walk_in_time, cheaper}
use Rattle.route_base.proofs.Covering.{pair_later}
use Rattle.route_base.proofs.Fronts.{is_front}
use Rattle.route_base.specs.FirstItinerary.{IsFirst, AreFirst}
use Rattle.plain_search.specs.Inside.Costs.{none, ComesBySteps, IsRelaxedBefore}
use Rattle.plain_search.specs.Inside.Routes.{IsRouteAt}

-- the routes to the goal before minute t, each better than those before it
pub record IsReadTo (s : Setting) (r : Request) (cost : ℕ → ℕ → ℕ) (t best : ℕ) (routes : List Route) : Type 0 where
  pub known : best ≤ none
  pub trade : RiseAndFall (pairs_of routes)
  pub before : All (λ p. (p.arrival < t) × (best ≤ p.cost)) (pairs_of routes)
  pub lawful : All (λ x. Achieves s r x.legs x.pair × HasNoNeighbouringWaits x.legs) routes
  pub first : AreFirst s r routes
  pub least : best < none → HasPair (pairs_of routes) t best
  pub covered : (k : ℕ) → k < t → cost r.goal.0 k < none → HasPair (pairs_of routes) k (cost r.goal.0 k)

module _ (s : Setting) (r : Request) (cost : ℕ → ℕ → ℕ) where
  -- nothing better arrives at t
  pub read_skip : (t best : ℕ) (routes : List Route) → IsReadTo s r cost t best routes → best ≤ cost r.goal.0 t
      → IsReadTo s r cost (t + 1) best routes
  read_skip t best routes read le = record {
    known = read.known;
    trade = read.trade;
    before = All-weaker (λ p. (p.arrival < t) × (best ≤ p.cost)) (λ p. (p.arrival < t + 1) × (best ≤ p.cost))
        (λ p h. (omega (arith, h.0), h.1)) (pairs_of routes) read.before;
    lawful = read.lawful;
    first = read.first;
    least = λ some. pair_later (pairs_of routes) _ _ _ _ (omega arith) (omega arith) (read.least some);
    covered = λ k below some. ⊎_elim
        (λ (earlier : k < t). read.covered k earlier some)
        (λ (here : t ≤ k). let same : t ≡ k = omega arith in
        subst (λ (n : ℕ). HasPair (pairs_of routes) n (cost r.goal.0 n)) same
        (pair_later (pairs_of routes) _ _ _ _ (omega arith) le (read.least (omega (arith, le, some, ap (λ n. cost r.goal.0 n) same)))))
        (cases_lt k t);
  }

  -- a better route arrives at t
  pub read_push : (t best : ℕ) (routes : List Route) (route : Route) → IsReadTo s r cost t best routes → IsRouteAt s r cost t route
      → cost r.goal.0 t < best → IsReadTo s r cost (t + 1) (cost r.goal.0 t) (routes ++ route ∷ [])
  read_push t best routes route read new better = record {
    known = omega (arith, read.known, better);
    trade = subst RiseAndFall (sym pushed) (all_pairs_push Trades (pairs_of routes) route.pair read.trade
        (λ k d within. let h = read.before k d within in (omega (arith, h.0, new.arrival), omega (arith, h.1, new.cost, better))));
    before = subst (λ (w : List Pair). All (λ p. (p.arrival < t + 1) × (cost r.goal.0 t ≤ p.cost)) w) (sym pushed)
        (All-push (λ p. (p.arrival < t + 1) × (cost r.goal.0 t ≤ p.cost)) (pairs_of routes) route.pair
        (All-weaker (λ p. (p.arrival < t) × (best ≤ p.cost)) (λ p. (p.arrival < t + 1) × (cost r.goal.0 t ≤ p.cost))
        (λ p h. (omega (arith, h.0), omega (arith, h.1, better))) (pairs_of routes) read.before)
        (omega (arith, new.arrival), omega (arith, new.cost)));
    lawful = All-push (λ x. Achieves s r x.legs x.pair × HasNoNeighbouringWaits x.legs) routes route read.lawful (new.lawful, new.no_neighbours);
    first = All-push (λ x. IsFirst s r x.legs x.pair) routes route read.first new.first;
    least = λ some. pair_later _ _ _ _ _ (omega arith) (omega arith) here;
    covered = λ k below some. ⊎_elim
        (λ (earlier : k < t). longer k (cost r.goal.0 k) (read.covered k earlier some))
        (λ (now : t ≤ k). let same : t ≡ k = omega arith
        in subst (λ (n : ℕ). HasPair (pairs_of (routes ++ route ∷ [])) n (cost r.goal.0 n)) same here)
        (cases_lt k t);
  }
    where
      pushed : pairs_of (routes ++ route ∷ []) ≡ pairs_of routes ++ route.pair ∷ []
      pushed = map-append (λ (x : Route). x.pair) routes (route ∷ [])

      here : HasPair (pairs_of (routes ++ route ∷ [])) t (cost r.goal.0 t)
      here = record {
        pair = route.pair;
        is_one = subst (λ (w : List Pair). Contains w route.pair) (sym pushed)
            (Contains-push (pairs_of routes) route.pair);
        arrival = omega (arith, new.arrival);
        cost = omega (arith, new.cost);
      }

      longer : (k x : ℕ) → HasPair (pairs_of routes) k x → HasPair (pairs_of (routes ++ route ∷ [])) k x
      longer k x h = record {
        pair = h.pair;
        is_one = subst (λ (w : List Pair). Contains w h.pair) (sym pushed)
            (Contains-append_left (pairs_of routes) (route.pair ∷ []) h.pair h.is_one);
        arrival = h.arrival;
        cost = h.cost;
      }

  -- a position that a walk leads to, with a cost that the table doesn't exceed
  pub record IsBounded (p : Position) : Type 0 where
    pub steps : List Step
    pub walk : Walks s r.until steps (start_of r) p
    pub within : cost p.node p.minute ≤ p.cost

  bounded_on : CostsFit s r → IsRelaxedBefore s r.until cost (r.until + 1) → (x : Step) (p q : Position) → IsBounded p
      → Moves s r.until x p q → IsBounded q
  bounded_on fit done x p q here move =
      let less = cheaper s r.until x p q (cost p.node p.minute) here.within move in
      let known : cost p.node p.minute < none = omega (arith, here.within, fit here.steps p here.walk) in
      let lands = done x p.node p.minute (in_time x move) known (record { node = q.node; minute = q.minute; cost = less.0 }) less.2 in
      record {
        steps = here.steps ++ x ∷ [];
        walk = walk-push s r.until here.steps x
            (start_of r) p q here.walk move;
        within = omega (arith, lands, less.1);
      }
    where
      in_time : (y : Step) → Moves s r.until y p q → p.minute < r.until + 1
      in_time (drive a) m = omega (arith, m.in_time)
      in_time wait m = omega (arith, m.in_time)

  -- no label is higher than the cost of a walk
  pub bounded_at : (now : ℕ) → CostsFit s r → ComesBySteps s r cost now → IsRelaxedBefore s r.until cost (r.until + 1)
      → (steps : List Step) (p : Position) → Walks s r.until steps (start_of r) p → IsBounded p
  bounded_at now fit founded done steps p walk = along s r.until IsBounded (bounded_on fit done) steps (start_of r) p
      (record { steps = []; walk = refl; within = omega (arith, founded.start) }) walk

  -- the cost at the goal is no higher than that of any lawful itinerary
  pub bounded : (now : ℕ) → CostsFit s r → ComesBySteps s r cost now → IsRelaxedBefore s r.until cost (r.until + 1) → (p : Pair)
      → IsAchieved s r p → IsBounded (end_of r p)
  bounded now fit founded done p achieved = bounded_at now fit founded done achieved.steps (end_of r p) achieved.walk

  -- what is read to the horizon is right
  pub right_at_end : (now t best : ℕ) (routes : List Route) → r.depart ≤ r.until → CostsFit s r → ComesBySteps s r cost now
      → IsRelaxedBefore s r.until cost (r.until + 1) → r.until < t → IsReadTo s r cost t best routes → IsRight s r routes
  right_at_end now t best routes in_time fit founded done late read = record {
    front = is_front s r (pairs_of routes) read.trade achieved covered;
    legs = read.lawful;
    first = read.first;
  }
    where
      achieved : (p : Pair) → Contains (pairs_of routes) p → IsAchieved s r p
      achieved p one = All-contains (IsAchieved s r) (pairs_of routes) p
          (All-map (IsAchieved s r) (λ (x : Route). x.pair) routes
          (All-weaker (λ x. Achieves s r x.legs x.pair × HasNoNeighbouringWaits x.legs) (λ x. IsAchieved s r x.pair)
          (λ x h. record { in_time = h.0.in_time; steps = steps_of x.legs; walk = h.0.walk }) routes read.lawful)) one

      covered : (p : Pair) → IsAchieved s r p → HasPair (pairs_of routes) p.arrival p.cost
      covered p can =
          let here = bounded now fit founded done p can in
          let cheap = fit here.steps (end_of r p) here.walk in
          let before = walk_in_time s r.until here.steps (start_of r) (end_of r p) in_time here.walk in
          pair_later (pairs_of routes) _ _ _ _ (omega arith) here.within
          (read.covered p.arrival (omega (arith, before, late)) (omega (arith, here.within, cheap)))
