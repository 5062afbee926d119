-- A lawful itinerary that keeps the rule has a walk over states that is no worse.
use Rattle.std.proofs.Common.{◌≡◌, ◌⊎◌, inl, inr, ⊎_elim, ℕ, ◌+◌, ◌*◌, ◌≤◌, ◌<◌, Some, List, [], ◌∷◌, ◌++◌, length, replicate, refl, sym, ◌∙◌, ap}
use Rattle.std.proofs.Common.{subst, arith}
use Rattle.std.proofs.lemmas.Bool.{cases_eq, cases_lt}
use Rattle.std.proofs.lemmas.Option.{same_Some}
use Rattle.route_base.specs.Setting.{Setting}
use Rattle.route_base.specs.Itinerary.{Position, Step, drive, wait, Moves, Walks}
use Rattle.route_base.specs.Net.{at_number}
use Rattle.route_base.specs.Open.{IsWaitOpen}
use Rattle.route_base.specs.declared.types.Leg.{Leg}
use Rattle.route_base.proofs.Waiting.{same_position, waits}
use Rattle.route_base.proofs.Walking.{walk-append, walk-push}
use Rattle.drive_breaks.specs.Rested.{minutes_of}
use Rattle.drive_breaks.specs.Inside.WithinRule.{IsWithinRule, IsWithinRuleFrom}
use Rattle.drive_breaks.specs.Inside.StateNet.{IsStateNet, CanDrive, HasRoad}
use Rattle.drive_states.specs.declared.rule.BreakRule.{BreakRule}
use Rattle.drive_states.specs.declared.rule.State.{State}
use Rattle.drive_breaks.proofs.Since.{IsLeast, least_drive, least_wait, least_within, EndsWaiting, few_waits, waits_more, by_drive, minutes_is}
use Rattle.drive_breaks.proofs.SoundBreaks.{at_place}

-- one more minute of waiting
cost_more : (k w w' c p q : ℕ) → (k ≡ 0) ⊎ (w ≡ w') → c + k * w ≡ p → q ≡ p + w' → c + (k + 1) * w' ≡ q
cost_more k w w' c p q either was now = ⊎_elim
    (λ (none : k ≡ 0). omega (arith, ap (λ (n : ℕ). n * w) none, ap (λ (n : ℕ). (n + 1) * w') none, was, now))
    (λ (same : w ≡ w'). omega (arith, ap (λ (n : ℕ). k * n) same, was, now))
    either

module _ (s z : Setting) (rule : BreakRule) (origin goal : ℕ) (states : List State) (sources : List Leg) (made : IsStateNet s z rule origin goal states sources)
    (some : 1 ≤ rule.rest) (until : ℕ) (start : Position) where
  -- a walk over states leads to the state, so many waits before the position, and no fewer minutes were driven since any break
  record IsTracked (back : List Step) (p : Position) : Type 0 where
    pub i : ℕ
    pub state : State
    pub is : at_number states i ≡ Some state
    pub node : p.node ≡ state.node.0
    pub xs : List Step
    pub big : Position
    pub at : big.node ≡ i
    pub walk : Walks z until xs start big
    pub k : ℕ
    pub weight : ℕ
    pub rated : (k ≡ 0) ⊎ (s.weight state.node.0 ≡ Some weight)
    pub is_open : IsWaitOpen s state.node.0 big.minute k
    pub minute : big.minute + k ≡ p.minute
    pub cost : big.cost + k * weight ≡ p.cost
    pub in_time : p.minute ≤ until
    pub least : IsLeast s.road rule back state.driven
    pub few : (state.driven ≡ 0) ⊎ (EndsWaiting back k × (k < rule.rest))

  waited : (back : List Step) (p : Position) (t : IsTracked back p) → (ys : List Step) × Walks z until ys start (at_place t.i p)
  waited back p t = ⊎_elim
      (λ (none : t.k ≡ 0). (
        t.xs,
        subst (λ (w : Position). Walks z until t.xs start w)
            (same_position t.big (at_place t.i p) t.at (omega (arith, none, t.minute)) (omega (arith, ap (λ (n : ℕ). n * t.weight) none, t.cost))) t.walk,
      ))
      (λ (rated : s.weight t.state.node.0 ≡ Some t.weight). (
        t.xs ++ replicate t.k wait,
        walk-append z until t.xs (replicate t.k wait) start t.big (at_place t.i p) t.walk
            (subst (λ (w : Position). Walks z until (replicate t.k wait) t.big w) (same_position _ (at_place t.i p) t.at t.minute t.cost)
            (waits z until t.k t.big.node t.big.minute t.big.cost t.weight (ap z.weight t.at ∙ made.weights t.i t.state t.is ∙ rated)
            (λ u early late. ap (λ (v : ℕ). z.wait_shut v u) t.at ∙ made.wait_shut t.i t.state t.is u ∙ t.is_open u early late)
            (omega (arith, t.minute, t.in_time)))),
      ))
      t.rated

  can : (back : List Step) (p q : Position) (a : ℕ) (t : IsTracked back p) (move : Moves s until (drive a) p q)
      → IsWithinRule s.road rule back (minutes_of (s.road a))
      → CanDrive s rule states t.i a t.state move.road
  can back p q a t move within = record {
    at = t.is;
    is = move.is;
    tail = move.tail ∙ t.node;
    within = omega (arith, least_within s.road rule back t.state.driven (minutes_of (s.road a)) t.least within, minutes_is (s.road a) move.road move.is);
  }

  -- one drive more over states
  driven_on : (back : List Step) (p q : Position) (a j : ℕ) (t : IsTracked back p) (move : Moves s until (drive a) p q)
      (road : HasRoad z t.i j move.road.minutes move.road.cost)
      → ((m : ℕ) → z.shut road.x m ≡ s.shut a m) → (ys : List Step) × Walks z until ys start (at_place j q)
  driven_on back p q a j t move road same =
      let before = waited back p t in (
        before.0 ++ drive road.x ∷ [],
        walk-push z until before.0 (drive road.x) start (at_place t.i p) (at_place j q) before.1 (record {
          road = record { tail = t.i; head = j; minutes = move.road.minutes; cost = move.road.cost };
          is = road.is;
          tail = refl;
          is_open = λ m early late. same m ∙ move.is_open m early late;
          in_time = move.in_time;
          node = refl;
          minute = move.minute;
          cost = move.cost;
        }),
      )

  -- the same where nothing was waited since the walk's end
  tracked_here : (back : List Step) (q : Position) (i : ℕ) (state : State) → at_number states i ≡ Some state → q.node ≡ state.node.0
      → (xs : List Step) → Walks z until xs start (at_place i q) → q.minute ≤ until → IsLeast s.road rule back state.driven
      → (state.driven ≡ 0) ⊎ (EndsWaiting back 0 × (0 < rule.rest)) → IsTracked back q
  tracked_here back q i state is node xs walk in_time least few = record {
    i = i;
    state = state;
    is = is;
    node = node;
    xs = xs;
    big = at_place i q;
    at = refl;
    walk = walk;
    k = 0;
    weight = 0;
    rated = inl refl;
    is_open = λ u early late. absurd (omega (arith, early, late));
    minute = omega arith;
    cost = omega arith;
    in_time = in_time;
    least = least;
    few = few;
  }

  tracks_drive : (back : List Step) (p q : Position) (a : ℕ) → IsTracked back p → Moves s until (drive a) p q
      → IsWithinRule s.road rule back (minutes_of (s.road a))
      → IsTracked (drive a ∷ back) q
  tracks_drive back p q a t move within =
      let next = made.drives t.i a t.state move.road (can back p q a t move within) in
      let walk = driven_on back p q a next.0 t move next.5 next.6 in
      tracked_here (drive a ∷ back) q next.0 next.1 next.2 (move.node ∙ sym next.3) walk.0 walk.1 (omega (arith, move.in_time, move.minute))
      (subst (IsLeast s.road rule (drive a ∷ back)) (omega (arith, next.4, minutes_is (s.road a) move.road move.is))
      (least_drive s.road rule back t.state.driven a some t.least))
      (inr (record { front = drive a ∷ back; is = refl; driven = by_drive a back }, some))

  -- the waits before the position, and one more, are open
  open_more : (back : List Step) (p q : Position) (t : IsTracked back p) → Moves s until wait p q → IsWaitOpen s t.state.node.0 t.big.minute (t.k + 1)
  open_more back p q t move u early late = ⊎_elim
      (λ (last : u ≡ p.minute). ap (s.wait_shut t.state.node.0) last ∙ ap (λ (v : ℕ). s.wait_shut v p.minute) (sym t.node) ∙ move.is_open)
      (λ (other : u ≡ p.minute → ⊥). t.is_open u early (omega (arith, late, other, t.minute)))
      (cases_eq u p.minute)

  -- a wait that ends no break
  waits_on : (back : List Step) (p q : Position) (t : IsTracked back p) → Moves s until wait p q
      → (t.state.driven ≡ 0) ⊎ (EndsWaiting (wait ∷ back) (t.k + 1) × (t.k + 1 < rule.rest)) → IsTracked (wait ∷ back) q
  waits_on back p q t move few =
      let rated : s.weight t.state.node.0 ≡ Some move.weight = ap s.weight (sym t.node) ∙ move.rated in
      let either : (t.k ≡ 0) ⊎ (t.weight ≡ move.weight) = ⊎_elim
      (λ (none : t.k ≡ 0). inl none)
      (λ (was : s.weight t.state.node.0 ≡ Some t.weight). inr (same_Some t.weight move.weight (sym was ∙ rated)))
      t.rated in
      record {
        i = t.i;
        state = t.state;
        is = t.is;
        node = move.node ∙ t.node;
        xs = t.xs;
        big = t.big;
        at = t.at;
        walk = t.walk;
        k = t.k + 1;
        weight = move.weight;
        rated = inr rated;
        is_open = open_more back p q t move;
        minute = omega (arith, t.minute, move.minute);
        cost = cost_more t.k t.weight move.weight t.big.cost p.cost q.cost either t.cost move.cost;
        in_time = omega (arith, move.in_time, move.minute);
        least = least_wait s.road rule back t.state.driven some t.least (λ early same. ⊎_elim
            (λ (none : t.state.driven ≡ 0). none)
            (λ (more : EndsWaiting (wait ∷ back) (t.k + 1) × (t.k + 1 < rule.rest)).
            absurd (omega (arith, more.1, few_waits (wait ∷ back) early (t.k + 1) rule.rest more.0 same)))
            few);
        few = few;
      }

  -- a wait that ends a break
  breaks_off : (back : List Step) (p q : Position) (t : IsTracked back p) → Moves s until wait p q → (t.state.driven ≡ 0 → ⊥) → t.k + 1 ≡ rule.rest
      → IsTracked (wait ∷ back) q
  breaks_off back p q t move loaded full =
      let rated : s.weight t.state.node.0 ≡ Some move.weight = ap s.weight (sym t.node) ∙ move.rated in
      let either : (t.k ≡ 0) ⊎ (t.weight ≡ move.weight) = ⊎_elim
      (λ (none : t.k ≡ 0). inl none)
      (λ (was : s.weight t.state.node.0 ≡ Some t.weight). inr (same_Some t.weight move.weight (sym was ∙ rated)))
      t.rated in
      let next = made.breaks t.i move.weight t.state t.is rated loaded in
      let cost : t.big.cost + (t.k + 1) * move.weight ≡ q.cost = cost_more t.k t.weight move.weight t.big.cost p.cost q.cost either t.cost move.cost in
      tracked_here (wait ∷ back) q next.0 next.1 next.2 (move.node ∙ t.node ∙ sym next.3) (t.xs ++ drive next.5.x ∷ [])
      (walk-push z until t.xs (drive next.5.x) start t.big (at_place next.0 q) t.walk (record {
        road = record { tail = t.i; head = next.0; minutes = rule.rest; cost = rule.rest * move.weight };
        is = next.5.is;
        tail = sym t.at;
        is_open = λ m early late. next.6 m ∙ open_more back p q t move m early (omega (arith, late, full));
        in_time = omega (arith, move.in_time, t.minute, full);
        node = refl;
        minute = omega (arith, move.minute, t.minute, full);
        cost = sym cost ∙ ap (λ (n : ℕ). t.big.cost + n * move.weight) full;
      }))
      (omega (arith, move.in_time, move.minute))
      (record { all = omega (arith, next.4); each = λ late since. omega (arith, next.4) })
      (inl next.4)

  tracks_wait : (back : List Step) (p q : Position) → IsTracked back p → Moves s until wait p q → IsTracked (wait ∷ back) q
  tracks_wait back p q t move = ⊎_elim
      (λ (none : t.state.driven ≡ 0). waits_on back p q t move (inl none))
      (λ (loaded : t.state.driven ≡ 0 → ⊥). ⊎_elim
      (λ (none : t.state.driven ≡ 0). waits_on back p q t move (inl none))
      (λ (few : EndsWaiting back t.k × (t.k < rule.rest)). ⊎_elim
      (λ (short : t.k + 1 < rule.rest). waits_on back p q t move (inr (waits_more back t.k few.0, short)))
      (λ (full : rule.rest ≤ t.k + 1). breaks_off back p q t move loaded (omega (arith, full, few.1)))
      (cases_lt (t.k + 1) rule.rest))
      t.few)
      (cases_eq t.state.driven 0)

  -- a walk over states to the node behind all states, no later and no dearer
  pub record Arrives (q : Position) : Type 0 where
    pub end : Position
    pub at : end.node ≡ length states + 1
    pub minute : end.minute ≤ q.minute
    pub cost : end.cost ≤ q.cost
    pub steps : List Step
    pub walk : Walks z until steps start end

  -- only waits lead from p to q
  pub record IsWaitedFrom (p q : Position) : Type 0 where
    pub node : q.node ≡ p.node
    pub minute : p.minute ≤ q.minute
    pub cost : p.cost ≤ q.cost

  found : (xs back : List Step) (p q : Position) → IsTracked back p → Walks s until xs p q → IsWithinRuleFrom s.road rule back xs → q.node ≡ goal
      → IsWaitedFrom p q ⊎ Arrives q
  found [] back p q t walk rested at = inl (record {
    node = ap (λ (w : Position). w.node) (sym walk);
    minute = omega (arith, ap (λ (w : Position). w.minute) walk);
    cost = omega (arith, ap (λ (w : Position). w.cost) walk);
  })
  found (wait ∷ xs) back p q t walk rested at = ⊎_elim
      (λ (only : IsWaitedFrom walk.0 q). inl (record {
        node = only.node ∙ walk.1.node;
        minute = omega (arith, only.minute, walk.1.minute);
        cost = omega (arith, only.cost, walk.1.cost);
      }))
      (λ (arrives : Arrives q). inr arrives)
      (found xs (wait ∷ back) walk.0 q (tracks_wait back p walk.0 t walk.1) walk.2 rested at)
  found (drive a ∷ xs) back p q t walk rested at = ⊎_elim
      (λ (only : IsWaitedFrom walk.0 q).
      (let last = made.arrivals t.i a t.state walk.1.road (can back p walk.0 a t walk.1 rested.0) (sym walk.1.node ∙ sym only.node ∙ at) in
      let way = driven_on back p walk.0 a (length states + 1) t walk.1 last.0 last.1 in
      inr (record {
        end = at_place (length states + 1) walk.0;
        at = refl;
        minute = only.minute;
        cost = only.cost;
        steps = way.0;
        walk = way.1;
      })))
      (λ (arrives : Arrives q). inr arrives)
      (found xs (drive a ∷ back) walk.0 q (tracks_drive back p walk.0 a t walk.1 rested.0) walk.2 rested.1 at)

  -- what begins at the first state and ends elsewhere at the goal arrives over states
  pub arrives : (xs : List Step) (p q : Position) → start.node ≡ 1 → start.minute ≡ p.minute → start.cost ≡ p.cost → p.node ≡ origin → p.minute ≤ until
      → (origin ≡ goal → ⊥) → Walks s until xs p q → IsWithinRuleFrom s.road rule [] xs → q.node ≡ goal → Arrives q
  arrives xs p q one minute cost node in_time away walk rested at = ⊎_elim
      (λ (only : IsWaitedFrom p q). absurd (away (sym node ∙ sym only.node ∙ at)))
      (λ (arrives : Arrives q). arrives)
      (found xs [] p q
      (tracked_here [] p 1 made.first made.at_first (node ∙ sym made.first_node) [] (same_position start (at_place 1 p) one minute cost) in_time
      (record { all = omega (arith, made.first_driven); each = λ late since. omega (arith, made.first_driven) }) (inl made.first_driven))
      walk rested at)
