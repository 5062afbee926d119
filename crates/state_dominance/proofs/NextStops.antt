-- Every way to the goal serves the next stop, and comes there for no less than its reduced sum says.
use Rattle.std.proofs.Common.{◌≡◌, ◌⊎◌, inl, inr, ⊎_elim, ℕ, suc, ◌+◌, ◌*◌, ◌-◌, ◌/◌, ◌%◌, ◌≤◌, ◌<◌, true, false, eqb, Option, Some, None, List, [], ◌∷◌, ◌++◌, length, refl, sym, ◌∙◌, ap, subst, arith}
use Rattle.std.specs.Prelude.{nat_le, nat_lt, slice_get}
use Rattle.std.proofs.lemmas.Bool.{cases_lt, eqb-true, eq-eqb, leb-false, ltb-false, and_parts, and_from, or_parts}
use Rattle.std.proofs.lemmas.Nat.{div-mul-add, mod-mul-add}
use Rattle.std.proofs.lemmas.Option.{same_Some, slice_get_within}
use Rattle.std.proofs.Math.Nat.{mul-add, mul-le-mul_right}
use Rattle.route_base.specs.Setting.{Setting, Road}
use Rattle.route_base.specs.Itinerary.{Position, Step, drive, wait, Drives, Waits, Walks}
use Rattle.route_base.specs.declared.types.Bound.{Bound}
use Rattle.route_base.specs.declared.types.Pair.{Pair}
use Rattle.route_base.proofs.Walking.{along, walk-push, walk_in_time}
use Rattle.propagation.specs.Inside.Invariants.{Progress, point, IsWorseOrLate}
use Rattle.propagation.specs.Inside.Pairs.{HasBetter}
use Rattle.state_dominance.specs.Inside.Dominance.{Task, AreBoundsAlong, IsBeatenOn, IsPrunable, IsSurpassed}
use Rattle.state_dominance.specs.Inside.NextStops.{AreReducedSums, IsOutdone, MayEnd}
use Rattle.state_dominance.specs.Inside.Product.{Ruler, Service, IsSimulating, IsStaged, HasBest, IsBase, AreLatest, AreRuledBounds, code, product, shut_for, task_by_latest}
use Rattle.state_dominance.proofs.Alike.{same_code}
use Rattle.state_dominance.proofs.Pruned.{prunable_moves}
use Rattle.state_dominance.proofs.Roads.{IsDriveRoad, IsRestRoad, IsServiceRoad, road_kinds}
use Rattle.state_dominance.proofs.Simulating.{are_bounds}

-- along bounds there is one before each walk to a bound, which is no larger than the walk and that one
way_bound : (k : Task) → AreBoundsAlong k → (xs : List Step) (p q : Position) (h : Bound) → Walks k.setting k.until xs p q → k.bounds q.node ≡ Some h
    → (b : Bound) × (k.bounds p.node ≡ Some b) × (p.minute + b.minutes ≤ q.minute + h.minutes)
way_bound k bound [] p q h same is = (
  h,
  ap (λ (w : Position). k.bounds w.node) same ∙ is,
  omega (arith, ap (λ (w : Position). w.minute) same),
)
way_bound k bound (drive a ∷ xs) p q h walk is =
    let rest = way_bound k bound xs walk.0 q h walk.2 is in
    let e = bound.each a walk.1.road rest.0 walk.1.is (ap k.bounds (sym walk.1.node) ∙ rest.1) in
    (e.0, ap k.bounds (sym walk.1.tail) ∙ e.1, omega (arith, e.2.minutes, walk.1.minute, rest.2))
way_bound k bound (wait ∷ xs) p q h walk is =
    let rest = way_bound k bound xs walk.0 q h walk.2 is in
    (rest.0, ap k.bounds (sym walk.1.node) ∙ rest.1, omega (arith, walk.1.minute, rest.2))

-- what is too late leads to the goal no more
late_nowhere : (k : Task) → AreBoundsAlong k → (xs : List Step) (p q : Position) → k.goal q.node ≡ true → q.minute ≤ k.until
    → Walks k.setting k.until xs p q → IsPrunable k [] p → ⊥
late_nowhere k bound xs p q goal in_time walk out =
    let last : IsPrunable k [] q = along k.setting k.until (IsPrunable k [])
    (λ x u w excused move. prunable_moves k bound [] x u w move excused) xs p q out walk in
    ⊎_elim
    (λ (over : k.latest q.node < q.minute + 0). omega (arith, over, in_time, bound.last q.node goal))
    (λ (had : HasBetter [] (q.minute + 0) (q.cost + 0)). omega (arith, had.is_one.1))
    (subst (λ o. IsWorseOrLate (k.latest q.node) [] o q) (bound.goal q.node goal) last)

-- a service's minutes are in its window
open_within : (c : Service) (t : ℕ) → shut_for (Some c) t ≡ false → (c.from ≤ t) × (t < c.to)
open_within c t free =
    let parts = or_parts (nat_lt t c.from) (nat_le c.to t) free in
    (ltb-false t c.from parts.0, leb-false c.to t parts.1)

-- what a number of minutes costs, before and behind some of them
split_price : (price until t u : ℕ) → t ≤ u → u ≤ until → price * (until - t) ≡ price * (until - u) + price * (u - t)
split_price price until t u le within = ap (λ m. price * m) (omega (arith, le, within)) ∙ mul-add price (until - u) (u - t)

-- the minutes between two
lasts_for : (t u n : ℕ) → u ≡ t + n → u - t ≡ n
lasts_for t u n is = omega (arith, is)

module _ (s : Setting) (r : Ruler) (base origin goal depart until : ℕ) (bound : ℕ → ℕ → Option Bound) (latest : ℕ → ℕ) (now : Progress)
    (price : ℕ) (sum : ℕ → ℕ → ℕ) (sim : IsSimulating r) (best : HasBest r) (staged : IsStaged r) (is_base : IsBase s r base)
    (bounds : AreRuledBounds s r goal bound) (minutes : AreLatest r until bound latest) (sums : AreReducedSums s r price sum)
    (c : Service) (v k t x : ℕ) (is : slice_get r.services (r.stage k) ≡ Some c) (is_node : v < base) (begun : t ≤ until)
    (out : IsOutdone r base until bound latest now price sum c v k t x) where
  abbrev over : Task
  over = task_by_latest s r base origin goal depart until bound latest

  along_roads : AreBoundsAlong over
  along_roads = are_bounds s r base origin goal depart until bound latest sim is_base bounds minutes

  is_stop : r.stage k < length r.services
  is_stop = slice_get_within r.services (r.stage k) c is

  abbrev begin : Position
  begin = point (code base v k) t x

  -- a position on the way to the stop: it costs no less than its reduced sum says
  record IsOnWay (q : Position) : Type 0 where
    pub steps : List Step
    pub walk : Walks over.setting until steps (point (code base v k) t x) q
    pub node : ℕ
    pub state : ℕ
    pub low : node < base
    pub at : q.node ≡ code base node state
    pub stage : r.stage state ≡ r.stage k
    pub since : t ≤ q.minute
    pub in_time : q.minute ≤ until
    pub paid : x + price * (until - t) + sum v (r.stage k) ≤ q.cost + price * (until - q.minute) + sum node (r.stage k)

  on_at_first : IsOnWay begin
  on_at_first = record {
    steps = [];
    walk = refl;
    node = v;
    state = k;
    low = is_node;
    at = refl;
    stage = refl;
    since = omega arith;
    in_time = begun;
    paid = omega arith;
  }

  drive_goes : (a : ℕ) (p q : Position) → IsOnWay p → (move : Drives over.setting until a p q) → IsDriveRoad s r base a move.road → IsOnWay q
  drive_goes a p q on move d =
      let small = is_base.arcs d.arc d.over d.is in
      let same = same_code base d.over.tail d.state on.node on.state small.1 on.low (sym d.tail ∙ (move.tail ∙ on.at)) in
      let time : q.minute ≡ p.minute + d.over.minutes = omega (arith, move.minute, d.minutes) in
      record {
        steps = on.steps ++ drive a ∷ [];
        walk = walk-push over.setting until on.steps (drive a) (point (code base v k) t x) p q on.walk move;
        node = d.over.head;
        state = d.next;
        low = small.2;
        at = move.node ∙ d.head;
        stage = staged.drive d.state d.over.minutes d.next d.allowed ∙ (ap r.stage same.1 ∙ on.stage);
        since = omega (arith, on.since, move.minute);
        in_time = omega (arith, move.minute, move.in_time);
        paid = omega (
          arith,
          on.paid,
          sums.drives (r.stage k) d.arc d.over is_stop d.is,
          ap (λ n. sum n (r.stage k)) same.0,
          move.cost,
          d.cost,
          split_price price until p.minute q.minute (omega (arith, time)) (omega (arith, move.minute, move.in_time)),
          ap (λ m. price * m) (lasts_for p.minute q.minute d.over.minutes (omega (arith, time))),
        );
      }

  rest_goes : (a : ℕ) (p q : Position) → IsOnWay p → (move : Drives over.setting until a p q) → IsRestRoad s r base a move.road → IsOnWay q
  rest_goes a p q on move d =
      let small = is_base.nodes d.node d.weight d.rated in
      let same = same_code base d.node d.state on.node on.state small on.low (sym d.tail ∙ (move.tail ∙ on.at)) in
      let time : q.minute ≡ p.minute + d.rest = omega (arith, move.minute, d.minutes) in
      record {
        steps = on.steps ++ drive a ∷ [];
        walk = walk-push over.setting until on.steps (drive a) (point (code base v k) t x) p q on.walk move;
        node = d.node;
        state = r.rest d.state d.rest;
        low = small;
        at = move.node ∙ d.head;
        stage = staged.rest d.state d.rest ∙ (ap r.stage same.1 ∙ on.stage);
        since = omega (arith, on.since, move.minute);
        in_time = omega (arith, move.minute, move.in_time);
        paid = omega (
          arith,
          on.paid,
          ap (λ n. sum n (r.stage k)) same.0,
          move.cost,
          d.cost,
          mul-le-mul_right d.rest (sums.waits d.node d.weight d.rated),
          split_price price until p.minute q.minute (omega (arith, time)) (omega (arith, move.minute, move.in_time)),
          ap (λ m. price * m) (lasts_for p.minute q.minute d.rest (omega (arith, time))),
        );
      }

  wait_goes : (p q : Position) → IsOnWay p → Waits over.setting until p q → IsOnWay q
  wait_goes p q on move = record {
    steps = on.steps ++ wait ∷ [];
    walk = walk-push over.setting until on.steps wait (point (code base v k) t x) p q on.walk move;
    node = on.node;
    state = on.state;
    low = on.low;
    at = move.node ∙ on.at;
    stage = on.stage;
    since = omega (arith, on.since, move.minute);
    in_time = omega (arith, move.minute, move.in_time);
    paid = omega (
      arith,
      on.paid,
      move.cost,
      sums.waits (p.node % base) move.weight move.rated,
      split_price price until p.minute q.minute (omega (arith, move.minute)) (omega (arith, move.minute, move.in_time)),
      ap (λ m. price * m) (lasts_for p.minute q.minute 1 (omega (arith, move.minute))),
    );
  }

  module _ (a : ℕ) (p q : Position) (on : IsOnWay p) (move : Drives over.setting until a p q) (d : IsServiceRoad s r base a move.road)
      (xs : List Step) (end : Position) (at_goal : over.goal end.node ≡ true) (walk : Walks over.setting until xs q end) where
    node_is : (d.service.node ≡ on.node) × (d.state ≡ on.state)
    node_is = same_code base d.service.node d.state on.node on.state (is_base.services d.place d.service d.is).1 on.low (sym d.tail ∙ (move.tail ∙ on.at))

    stages : (r.stage d.state ≡ d.place) × (r.stage d.next ≡ suc d.place)
    stages = staged.serve d.state d.place d.next d.allowed

    place_is : d.place ≡ r.stage k
    place_is = sym stages.0 ∙ (ap r.stage node_is.1 ∙ on.stage)

    service_is : d.service ≡ c
    service_is = same_Some d.service c (sym d.is ∙ (ap (λ n. slice_get r.services n) place_is ∙ is))

    next_is : r.stage d.next ≡ suc (r.stage k)
    next_is = stages.1 ∙ ap suc place_is

    small : c.node < base
    small = subst (λ (w : Service). w.node < base) service_is (is_base.services d.place d.service d.is).1

    q_is : q.node ≡ code base c.node d.next
    q_is = move.node ∙ (d.head ∙ ap (λ (w : Service). code base w.node d.next) service_is)

    lasts : move.road.minutes ≡ c.minutes
    lasts = d.minutes ∙ ap (λ (w : Service). w.minutes) service_is

    takes : 1 ≤ c.minutes
    takes = subst (λ (w : Service). 1 ≤ w.minutes) service_is (is_base.service_times d.place d.service d.is)

    open_at : (u : ℕ) → p.minute ≤ u → u < p.minute + c.minutes → (c.from ≤ u) × (u < c.to)
    open_at u from to = open_within c u (ap (λ (w : Service). shut_for (Some w) u) (sym service_is) ∙ (sym (d.shut u) ∙ move.is_open u from (omega (arith, to, lasts))))

    end_in_time : end.minute ≤ until
    end_in_time = walk_in_time over.setting until xs q end (omega (arith, move.minute, move.in_time)) walk

    -- the bound behind the service
    behind : (h : Bound) × (bound c.node d.next ≡ Some h) × (over.bounds q.node ≡ Some h)
    behind =
        let e = way_bound over along_roads xs q end (record { minutes = 0; cost = 0 }) walk (along_roads.goal end.node at_goal) in
        let parts : over.bounds (code base c.node d.next) ≡ bound c.node d.next =
        ap (λ n. bound n (code base c.node d.next / base)) (mod-mul-add d.next base c.node small) ∙ ap (λ n. bound c.node n) (div-mul-add d.next base c.node small) in
        (e.0, sym parts ∙ (ap over.bounds (sym q_is) ∙ e.1), e.1)

    better : r.no_worse (r.best (suc (r.stage k))) d.next ≡ true
    better = subst (λ n. r.no_worse (r.best n) d.next ≡ true) next_is (best.best d.next)

    may_end : MayEnd r until bound latest c v k t q.minute
    may_end = record {
      begun = omega (arith, (open_at p.minute (omega arith) (omega (arith, takes))).0, move.minute, lasts);
      since = omega (arith, on.since, move.minute, lasts);
      closed = omega (arith, (open_at (p.minute + c.minutes - 1) (omega (arith, takes)) (omega (arith, takes))).1, move.minute, lasts, takes);
      over = omega (arith, move.minute, move.in_time);
      way = λ most b is_b all.
          let whole = walk-push over.setting until on.steps (drive a) (point (code base v k) t x) p q on.walk move in
          let e = way_bound over along_roads (on.steps ++ drive a ∷ []) (point (code base v k) t x) q behind.0 whole behind.2 in
          let parts : over.bounds (code base v k) ≡ bound v k =
          ap (λ n. bound n (code base v k / base)) (mod-mul-add k base v is_node) ∙ ap (λ n. bound v n) (div-mul-add k base v is_node) in
          let same : e.0 ≡ b = same_Some e.0 b (sym e.1 ∙ (parts ∙ is_b)) in
          omega (arith, e.2, ap (λ (w : Bound). w.minutes) same, all d.next behind.0 next_is behind.1);
      late = λ h is_h. ⊎_elim
          (λ (late : latest (r.best (suc (r.stage k))) < q.minute + h.minutes).
          let fall = bounds.falls c.node (r.best (suc (r.stage k))) d.next behind.0 better behind.1 in
          let same : fall.0 ≡ h = same_Some fall.0 h (sym fall.1 ∙ is_h) in
          let state : latest (q.node / base) ≡ latest d.next = ap (λ n. latest (n / base)) q_is ∙ ap latest (div-mul-add d.next base c.node small) in
          let gone : latest (q.node / base) < q.minute + behind.0.minutes =
          omega (arith, late, fall.2, ap (λ (w : Bound). w.minutes) same, minutes.falls (r.best (suc (r.stage k))) d.next better, state) in
          absurd (late_nowhere over along_roads xs q end at_goal end_in_time walk
          (subst (λ o. IsWorseOrLate (latest (q.node / base)) [] o q) (sym behind.2) (inl gone))))
          (λ (timely : q.minute + h.minutes ≤ latest (r.best (suc (r.stage k)))). timely)
          (cases_lt (latest (r.best (suc (r.stage k)))) (q.minute + h.minutes));
    }

    served_beaten : IsBeatenOn over now (drive a ∷ xs) end
    served_beaten =
        let known = out.known q.minute may_end in
        let first : ℕ = code base c.node (r.best (suc (r.stage k))) in
        record {
          at = q;
          beaten = record {
            node = first;
            better = and_from (eqb (first % base) (q.node % base)) (r.no_worse (first / base) (q.node / base))
                (eq-eqb (first % base) (q.node % base) (mod-mul-add (r.best (suc (r.stage k))) base c.node small
                ∙ sym (ap (λ n. n % base) q_is ∙ mod-mul-add d.next base c.node small)))
                (subst (λ n. r.no_worse n (q.node / base) ≡ true) (sym (div-mul-add (r.best (suc (r.stage k))) base c.node small))
                (subst (λ n. r.no_worse (r.best (suc (r.stage k))) n ≡ true) (sym (ap (λ n. n / base) q_is ∙ div-mul-add d.next base c.node small)) better));
            cost = known.0;
            known = known.1;
            less = omega (
              arith,
              known.2,
              out.above,
              on.paid,
              sums.stops (r.stage k) c is,
              ap (λ n. sum n (r.stage k)) (sym node_is.0 ∙ ap (λ (w : Service). w.node) service_is),
              move.cost,
              d.cost,
              split_price price until p.minute q.minute (omega (arith, move.minute)) (omega (arith, move.minute, move.in_time)),
              ap (λ m. price * m) (lasts_for p.minute q.minute c.minutes (omega (arith, move.minute, lasts))),
            );
          };
          after = xs;
          walk = walk;
          fewer = omega arith;
        }

  beaten_later : (y : Step) (xs : List Step) (end : Position) → IsBeatenOn over now xs end → IsBeatenOn over now (y ∷ xs) end
  beaten_later y xs end b = record { at = b.at; beaten = b.beaten; after = b.after; walk = b.walk; fewer = omega (arith, b.fewer) }

  walk_beaten : (xs : List Step) (p end : Position) → IsOnWay p → over.goal end.node ≡ true → Walks over.setting until xs p end → IsBeatenOn over now xs end
  walk_beaten [] p end on at_goal same =
      let ends = (and_parts (eqb (end.node % base) goal) (r.ends (end.node / base)) at_goal).1 in
      let state : end.node / base ≡ on.state =
      ap (λ n. n / base) (sym (ap (λ (w : Position). w.node) same) ∙ on.at) ∙ div-mul-add on.state base on.node on.low in
      absurd (omega (arith, staged.ends (end.node / base) ends, ap r.stage state, on.stage, is_stop))
  walk_beaten (wait ∷ xs) p end on at_goal walk =
      beaten_later wait xs end (walk_beaten xs walk.0 end (wait_goes p walk.0 on walk.1) at_goal walk.2)
  walk_beaten (drive a ∷ xs) p end on at_goal walk = ⊎_elim
      (λ (d : IsDriveRoad s r base a walk.1.road).
      beaten_later (drive a) xs end (walk_beaten xs walk.0 end (drive_goes a p walk.0 on walk.1 d) at_goal walk.2))
      (λ (other : IsRestRoad s r base a walk.1.road ⊎ IsServiceRoad s r base a walk.1.road). ⊎_elim
      (λ (d : IsRestRoad s r base a walk.1.road).
      beaten_later (drive a) xs end (walk_beaten xs walk.0 end (rest_goes a p walk.0 on walk.1 d) at_goal walk.2))
      (λ (d : IsServiceRoad s r base a walk.1.road). served_beaten a p walk.0 on walk.1 d xs end at_goal walk.2)
      other)
      (road_kinds s r base a walk.1.road walk.1.is)

  pub surpassed : IsSurpassed over now (point (code base v k) t x)
  surpassed = λ steps end at_goal walk. walk_beaten steps begin end on_at_first at_goal walk
