-- Each request over a well-formed net, whose costs fit, has right routes.
use Rattle.std.proofs.Common.{◌≡◌, ◌⊎◌, inl, inr, ⊎_elim, ℕ, zero, suc, ◌+◌, ◌≤◌, ◌<◌, List, [], ◌∷◌, length}
use Rattle.std.proofs.Common.{refl, sym, ◌∙◌, ap, subst, arith}
use Rattle.std.specs.Prelude.{◌≢◌, All, Contains, reverse}
use Rattle.std.proofs.lemmas.Bool.{cases_eq, cases_lt}
use Rattle.std.proofs.lemmas.List.Elements.{All-cons, All-nil}
use Rattle.std.proofs.lemmas.List.Kept.{AllPairs-cons}
use Rattle.route_base.specs.Setting.{Setting}
use Rattle.route_base.specs.Itinerary.{Step, drive, wait, Walks}
use Rattle.route_base.specs.FirstItinerary.{ComesBefore, IsFirst}
use Rattle.route_base.specs.Front.{IsAchieved, IsRight, RiseAndFall, Trades, pairs_of}
use Rattle.route_base.specs.Legs.{Achieves, CostsFit, DrivesFirst, HasNoEmptyWait, HasNoNeighbouringWaits, IsReachable, end_of, start_of, steps_of}
use Rattle.route_base.specs.Net.{Net, IsGoodNet, at_number, road_of, setting_of}
use Rattle.route_base.specs.Relaxing.{HasPair}
use Rattle.route_base.specs.declared.limits.TheConstants.{HIGHEST_COST}
use Rattle.route_base.specs.declared.types.Leg.{Leg}
use Rattle.route_base.specs.declared.types.Leg.TheVariants.{Drive, Wait}
use Rattle.route_base.specs.declared.types.Pair.{Pair}
use Rattle.route_base.specs.declared.types.Request.{Request}
use Rattle.route_base.specs.declared.types.Route.{Route}
use Rattle.route_base.proofs.Arcs.{TakesTime, takes_time}
use Rattle.route_base.proofs.Fronts.{is_front}
use Rattle.route_base.proofs.Logic.{map_some}
use Rattle.route_base.proofs.Mapped.{unmapped}
use Rattle.route_base.proofs.Numbered.{number_within}
use Rattle.route_base.proofs.Walking.{walk_in_time}
use Rattle.route_base.proofs.SomeWalk.{Decided, FirstTo, IsLeast, IsNumberedUpTo, found, least}

-- one minute more of waiting before legs
add_wait : List Leg → List Leg
add_wait [] = Wait 1 ∷ []
add_wait (Drive a ∷ legs) = Wait 1 ∷ Drive a ∷ legs
add_wait (Wait k ∷ legs) = Wait (suc k) ∷ legs

-- the legs of steps
legs_of : List Step → List Leg
legs_of [] = []
legs_of (drive a ∷ xs) = Drive (record { 0 = a }) ∷ legs_of xs
legs_of (wait ∷ xs) = add_wait (legs_of xs)

add_wait_steps : (legs : List Leg) → steps_of (add_wait legs) ≡ wait ∷ steps_of legs
unfolding add_wait
add_wait_steps [] = refl
add_wait_steps (Drive a ∷ legs) = refl
add_wait_steps (Wait k ∷ legs) = refl

some_wait : (k : ℕ) → Wait (suc k) ≢ Wait 0
some_wait k is = cc

add_wait_some : (legs : List Leg) → HasNoEmptyWait legs → HasNoEmptyWait (add_wait legs)
unfolding add_wait
add_wait_some [] none = (some_wait 0, tt)
add_wait_some (Drive a ∷ legs) none = (some_wait 0, none)
add_wait_some (Wait k ∷ legs) none = (some_wait k, none.1)

no_wait : (legs : List Leg) (a : ℕ) → DrivesFirst (Drive (record { 0 = a }) ∷ legs)
no_wait legs a k same = cc

add_wait_apart : (legs : List Leg) → HasNoNeighbouringWaits legs → HasNoNeighbouringWaits (add_wait legs)
unfolding add_wait
add_wait_apart [] apart = (tt, tt)
add_wait_apart (Drive a ∷ legs) apart = ((λ k same. cc), apart)
add_wait_apart (Wait k ∷ legs) apart = apart

legs_steps : (xs : List Step) → steps_of (legs_of xs) ≡ xs
unfolding legs_of
legs_steps [] = refl
legs_steps (drive a ∷ xs) = ap (λ (w : List Step). drive a ∷ w) (legs_steps xs)
legs_steps (wait ∷ xs) = add_wait_steps (legs_of xs) ∙ ap (λ (w : List Step). wait ∷ w) (legs_steps xs)

legs_some : (xs : List Step) → HasNoEmptyWait (legs_of xs)
unfolding legs_of
legs_some [] = tt
legs_some (drive a ∷ xs) = ((λ same. cc), legs_some xs)
legs_some (wait ∷ xs) = add_wait_some (legs_of xs) (legs_some xs)

legs_apart : (xs : List Step) → HasNoNeighbouringWaits (legs_of xs)
unfolding legs_of
legs_apart [] = tt
legs_apart (drive a ∷ xs) = legs_apart xs
legs_apart (wait ∷ xs) = add_wait_apart (legs_of xs) (legs_apart xs)

pair_of : ℕ → ℕ → Pair
pair_of arrival cost = record { arrival = arrival; cost = cost }

in_tail : (p : Pair) (ps : List Pair) (t x : ℕ) → HasPair ps t x → HasPair (p ∷ ps) t x
in_tail p ps t x has = record {
  pair = has.pair;
  is_one = (suc has.is_one.0, omega (arith, has.is_one.1), has.is_one.2);
  arrival = has.arrival;
  cost = has.cost;
}

module _ (s : Setting) (r : Request) (takes : TakesTime s) (arcs : ℕ) (numbered : IsNumberedUpTo s arcs) (fit : CostsFit s r)
    (in_order : r.depart ≤ r.until) where
  -- a first walk to the goal
  abbrev ToGoal : ℕ → ℕ → Type 0
  ToGoal t x = FirstTo s r takes arcs numbered (end_of r (record { arrival = t; cost = x }))

  goal_decided : (t x : ℕ) → Decided (ToGoal t x)
  goal_decided t x = ⊎_elim
      (λ (to : ToGoal t x). inl to)
      (λ (none : IsReachable s r (end_of r (record { arrival = t; cost = x })) → ⊥). inr (λ to. none (to.steps, to.walk)))
      (found s r takes arcs numbered (end_of r (record { arrival = t; cost = x })))

  at_goal : (p : Pair) → IsAchieved s r p → (t : ℕ) → p.arrival ≡ t → ToGoal t p.cost
  at_goal p can t here = ⊎_elim
      (λ (to : ToGoal t p.cost). to)
      (λ (none : IsReachable s r (end_of r (record { arrival = t; cost = p.cost })) → ⊥). absurd (none (
        can.steps,
        subst (λ (u : ℕ). Walks s r.until can.steps (start_of r) (record { node = r.goal.0; minute = u; cost = p.cost })) here can.walk,
      )))
      (found s r takes arcs numbered (end_of r (record { arrival = t; cost = p.cost })))

  abbrev IsRightRoute : Route → Type 0
  IsRightRoute x = (Achieves s r x.legs x.pair × HasNoNeighbouringWaits x.legs) × IsFirst s r x.legs x.pair

  route_by : (t x : ℕ) → ToGoal t x → Route
  route_by t x to = record { pair = record { arrival = t; cost = x }; legs = legs_of to.steps }

  right_route : (t x : ℕ) (to : ToGoal t x) → IsRightRoute (route_by t x to)
  unfolding route_by
  right_route t x to =
      let same = legs_steps to.steps in (
        (
          record {
            in_time = in_order;
            no_empty_wait = legs_some to.steps;
            walk = subst (λ (w : List Step). Walks s r.until w (start_of r) (end_of r (record { arrival = t; cost = x }))) (sym same) to.walk;
          },
          legs_apart to.steps,
        ),
        subst (λ (w : List Step). (steps : List Step) → Walks s r.until steps (start_of r) (end_of r (record { arrival = t; cost = x }))
            → (steps ≡ w) ⊎ ComesBefore (reverse w) (reverse steps)) (sym same) to.first,
      )

  -- right routes whose pairs arrive from minute t on and cost less than a cap, one for each such pair that is achieved
  record AreRoutesFrom (t cap : ℕ) : Type 0 where
    pub routes : List Route
    pub trade : RiseAndFall (pairs_of routes)
    pub late : All (λ p. t ≤ p.arrival) (pairs_of routes)
    pub cheap : All (λ p. p.cost < cap) (pairs_of routes)
    pub right : All IsRightRoute routes
    pub covers : (p : Pair) → IsAchieved s r p → t ≤ p.arrival → p.cost < cap → HasPair (pairs_of routes) p.arrival p.cost

  -- where no more pairs can be achieved
  none_left : (t cap : ℕ) → r.until < t → AreRoutesFrom t cap
  none_left t cap over = record {
    routes = [];
    trade = λ i j d less within. absurd (omega (arith, within));
    late = All-nil (λ p. t ≤ p.arrival);
    cheap = All-nil (λ p. p.cost < cap);
    right = All-nil IsRightRoute;
    covers = λ p can late cheap.
        let in_time = walk_in_time s r.until can.steps (start_of r) (end_of r p) in_order can.walk in
        absurd (omega (arith, in_time, late, over));
  }

  -- at this minute the goal is reached at this least cost
  with_pair : (t cap : ℕ) → (one : IsLeast (ToGoal t) cap) → AreRoutesFrom (t + 1) one.k → AreRoutesFrom t cap
  unfolding route_by
  with_pair t cap one rest =
      let pair : Pair = record { arrival = t; cost = one.k } in
      record {
        routes = route_by t one.k one.is ∷ rest.routes;
        trade = AllPairs-cons Trades pair (pairs_of rest.routes)
            (λ i d within. (omega (arith, rest.late i d within), rest.cheap i d within)) rest.trade;
        late = All-cons (λ p. t ≤ p.arrival) pair (pairs_of rest.routes) (omega arith) (λ i d within. omega (arith, rest.late i d within));
        cheap = All-cons (λ p. p.cost < cap) pair (pairs_of rest.routes) one.below
            (λ i d within. omega (arith, rest.cheap i d within, one.below));
        right = All-cons IsRightRoute (route_by t one.k one.is) rest.routes (right_route t one.k one.is) rest.right;
        covers = λ p can late cheap. ⊎_elim
            (λ (less : p.cost < one.k). ⊎_elim
            (λ (here : p.arrival ≡ t). absurd (one.least p.cost less (at_goal p can t here)))
            (λ (later : p.arrival ≡ t → ⊥). in_tail pair (pairs_of rest.routes) p.arrival p.cost
            (rest.covers p can (omega (arith, late, later)) less))
            (cases_eq p.arrival t))
            (λ (more : one.k ≤ p.cost).
            record { pair = pair; is_one = (0, omega arith, refl); arrival = late; cost = more })
            (cases_lt p.cost one.k);
      }

  -- at this minute the goal isn't reached at a cost below the cap
  without_pair : (t cap : ℕ) → ((x : ℕ) → x < cap → ToGoal t x → ⊥) → AreRoutesFrom (t + 1) cap → AreRoutesFrom t cap
  without_pair t cap none rest = record {
    routes = rest.routes;
    trade = rest.trade;
    late = λ i d within. omega (arith, rest.late i d within);
    cheap = rest.cheap;
    right = rest.right;
    covers = λ p can late cheap. ⊎_elim
        (λ (here : p.arrival ≡ t). absurd (none p.cost cheap (at_goal p can t here)))
        (λ (later : p.arrival ≡ t → ⊥). rest.covers p can (omega (arith, late, later)) cheap)
        (cases_eq p.arrival t);
  }

  routes_from : (n t cap : ℕ) → r.until + 1 ≤ t + n → AreRoutesFrom t cap
  routes_from zero t cap over = none_left t cap (omega (arith, over))
  routes_from (suc n) t cap over = ⊎_elim
      (λ (one : IsLeast (ToGoal t) cap). with_pair t cap one (routes_from n (t + 1) one.k (omega (arith, over))))
      (λ (none : (x : ℕ) → x < cap → ToGoal t x → ⊥). without_pair t cap none (routes_from n (t + 1) cap (omega (arith, over))))
      (least (ToGoal t) (goal_decided t) cap)

  achieved : (routes : List Route) → All IsRightRoute routes → (p : Pair) → Contains (pairs_of routes) p → IsAchieved s r p
  achieved routes right p one =
      let route = unmapped (λ (x : Route). x.pair) routes p one in
      let fine : IsRightRoute route.0 = subst IsRightRoute route.1.2 (right route.1.0 route.0 route.1.1) in
      subst (IsAchieved s r) route.2 (record { in_time = in_order; steps = steps_of route.0.legs; walk = fine.0.0.walk })

  -- the right routes of the request
  pub some_routes : (routes : List Route) × IsRight s r routes
  some_routes =
      let all = routes_from (r.until + 1) 0 (HIGHEST_COST + 1) (omega arith) in (
        all.routes,
        record {
          front = is_front s r (pairs_of all.routes) all.trade
              (λ p one. achieved all.routes all.right p one)
              (λ p can. all.covers p can (omega arith) (omega (arith, fit can.steps (end_of r p) can.walk)));
          legs = λ k d within. (all.right k d within).0;
          first = λ k d within. (all.right k d within).1;
        },
      )

-- each request over a well-formed net whose costs fit has right routes
pub some_answer : (net : Net) (r : Request) → IsGoodNet net → r.depart ≤ r.until → CostsFit (setting_of net) r
    → (routes : List Route) × IsRight (setting_of net) r routes
some_answer net r good in_order fit = some_routes (setting_of net) r (takes_time net good) (length net.arcs) numbers fit in_order
  where
    numbers : IsNumberedUpTo (setting_of net) (length net.arcs)
    numbers a road is =
        let arc = map_some (at_number net.arcs a) road_of road is in
        number_within net.arcs a arc.0 arc.1
