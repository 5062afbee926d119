-- The net with the arcs over all states is the net over states.
use Rattle.std.proofs.Common.{◌≡◌, ◌⊎◌, inl, inr, ⊎_elim, ℕ, ◌+◌, ◌*◌, Option, Some, None, List, [], ◌∷◌, ◌++◌, length, map, All, refl, sym, ◌∙◌, ap, subst}
use Rattle.std.proofs.lemmas.Option.{same_Some}
use Rattle.std.specs.Prelude.{Contains, slice_get, unwrap_or}
use Rattle.std.specs.Option.{option_map, option_flatten}
use Rattle.std.proofs.lemmas.List.{length-map}
use Rattle.route_base.specs.Setting.{Road}
use Rattle.route_base.specs.Runs.{any_has}
use Rattle.route_base.specs.Net.{Net, at_number, park_at, road_of, runs_by, shut_by, setting_of, IsGoodNet}
use Rattle.route_base.specs.declared.types.Leg.{Leg}
use Rattle.route_base.specs.declared.types.Leg.TheVariants.{Drive, Wait}
use Rattle.route_base.specs.declared.types.Park.{Park}
use Rattle.route_base.specs.declared.types.Run.{Run}
use Rattle.route_base.specs.declared.types.TimedArc.{TimedArc}
use Rattle.route_base.proofs.Numbered.{at_number-map}
use Rattle.route_base.proofs.Logic.{map_some}
use Rattle.front_transport.proofs.Places.{at_left, at_last}
use Rattle.drive_breaks.specs.Inside.StateNet.{IsDriveWay, IsBreakWay, IsWay, CanDrive, HasRoad, IsStateNet, IsArcFor, Arrives, AreBuilt, net_over}
use Rattle.drive_states.specs.StateSize.{IsDeparture}
use Rattle.drive_states.specs.Inside.StateSearch.{HasWay, IsSoundWay, IsExplored}
use Rattle.drive_states.specs.declared.rule.BreakRule.{BreakRule}
use Rattle.drive_states.specs.declared.rule.State.{State}
use Rattle.drive_states.specs.declared.rule.Way.{Way}
use Rattle.drive_states.proofs.Found.{way_of}

road : ℕ → ℕ → ℕ → ℕ → Road
road tail head minutes cost = record { tail = tail; head = head; minutes = minutes; cost = cost }

same_road : (x y : Road) → x.tail ≡ y.tail → x.head ≡ y.head → x.minutes ≡ y.minutes → x.cost ≡ y.cost → x ≡ y
unfolding road
same_road x y tail head minutes cost = ap (λ (w : ℕ). road w x.head x.minutes x.cost) tail ∙ ap (λ (w : ℕ). road y.tail w x.minutes x.cost) head
    ∙ ap (λ (w : ℕ). road y.tail y.head w x.cost) minutes ∙ ap (λ (w : ℕ). road y.tail y.head y.minutes w) cost

no_drive : (k : ℕ) (leg : Leg) → leg ≡ Wait k → (a : Leg) → a ≡ leg → a ≡ Wait k
no_drive k leg is a same = same ∙ is

not_wait : (a : ℕ) (k : ℕ) → Wait k ≡ Drive (record { 0 = a }) → ⊥
not_wait a k is = cc

pub all_in : {A : Type 0} (P : A → Type 0) (xs : List A) (x : A) → All P xs → Contains xs x → P x
all_in P xs x all one = subst P one.2 (all one.0 x one.1)

-- the park of the node of a state
unfoldable pub park_over : Net → State → Option Park
park_over net st = park_at net st.node.0

module _ (net : Net) (good : IsGoodNet net) (rule : BreakRule) (origin goal : ℕ) (states : List State) (ways : List Way) (arcs : List TimedArc)
    (sources : List Leg)
    (explored : IsExplored (setting_of net) origin rule states ways)
    (built : AreBuilt net states goal ways arcs sources) where
  big : Net
  big = net_over net states arcs

  -- an arc is shut where the list that it names says so
  shut_by_list : (x t k : ℕ) (arc : TimedArc) → at_number arcs x ≡ Some arc → arc.closed ≡ k
      → (setting_of big).shut x t ≡ any_has (unwrap_or (slice_get net.closed k) []) t
  unfolding big
  shut_by_list x t k arc at same =
      ap (λ (o : Option TimedArc). any_has (runs_by (net_over net states arcs) o) t) at
      ∙ ap (λ (i : ℕ). any_has (unwrap_or (slice_get net.closed i) []) t) same

  shut_as : (x t : ℕ) (arc base : TimedArc) (a : ℕ) → at_number arcs x ≡ Some arc → at_number net.arcs a ≡ Some base → arc.closed ≡ base.closed
      → (setting_of big).shut x t ≡ (setting_of net).shut a t
  shut_as x t arc base a at is same = shut_by_list x t base.closed arc at same ∙ ap (λ (o : Option TimedArc). any_has (runs_by net o) t) (sym is)

  -- a break is shut where waiting is
  shut_with : (x t v : ℕ) (arc : TimedArc) (park : Park) → at_number arcs x ≡ Some arc → park_at net v ≡ Some park → arc.closed ≡ park.shut
      → (setting_of big).shut x t ≡ (setting_of net).wait_shut v t
  shut_with x t v arc park at is same = shut_by_list x t park.shut arc at same ∙ ap (λ (o : Option Park). any_has (shut_by net o) t) (sym is)

  park_of : (at from : State) (park : Park) → at ≡ from → park_at net at.node.0 ≡ Some park → park_at net from.node.0 ≡ Some park
  park_of at from park same is = ap (λ (w : State). park_at net w.node.0) (sym same) ∙ is

  weight_of : (v w : ℕ) (park : Park) → park_at net v ≡ Some park → (setting_of net).weight v ≡ Some w → park.weight ≡ w
  weight_of v w park is rated = same_Some park.weight w (ap (option_map (λ park. park.weight)) (sym is) ∙ rated)

  -- a road over states, by the leg of its way
  by_leg : (leg : Leg) (x : ℕ) (r : Road) (arc : TimedArc) (from to : State) (i j : ℕ) → at_number arcs x ≡ Some arc → road_of arc ≡ r
      → at_number states i ≡ Some from → IsDeparture (setting_of net) rule from leg to → IsArcFor net states i j leg arc
      → (at_number states j ≡ Some to) ⊎ ((j ≡ length states + 1) × (to.node.0 ≡ goal) × ((k : ℕ) → leg ≡ Wait k → ⊥))
      → IsDriveWay (setting_of net) (setting_of big) rule goal states from x r leg ⊎ IsBreakWay (setting_of net) (setting_of big) rule states from x r leg
  by_leg (Drive a) x r arc from to i j at is at_from departs made to_at =
      let same : road_of made.0 ≡ departs.0 = same_Some (road_of made.0) departs.0 (sym (ap (option_map road_of) made.1) ∙ departs.1) in
      let head : r.head ≡ j = ap (λ (w : Road). w.head) (sym is) ∙ ap (λ (w : TimedArc). w.head.0) made.2 in
      inl (record {
        arc = a;
        is_leg = refl;
        over = departs.0;
        is = departs.1;
        tail = departs.2;
        within = departs.3;
        minutes = ap (λ (w : Road). w.minutes) (sym is) ∙ ap (λ (w : TimedArc). w.minutes) made.2 ∙ ap (λ (w : Road). w.minutes) same;
        cost = ap (λ (w : Road). w.cost) (sym is) ∙ ap (λ (w : TimedArc). w.cost) made.2 ∙ ap (λ (w : Road). w.cost) same;
        shut = λ t. shut_as x t arc made.0 a.0 at made.1 (ap (λ (w : TimedArc). w.closed) made.2);
        head = ⊎_elim
            (λ (inner : at_number states j ≡ Some to). inl (to, ap (at_number states) head ∙ inner, departs.4, departs.5))
            (λ (end : (j ≡ length states + 1) × (to.node.0 ≡ goal) × ((k : ℕ) → Drive a ≡ Wait k → ⊥)). inr (head ∙ end.0, sym departs.4 ∙ end.1))
            to_at;
      })
  by_leg (Wait k) x r arc from to i j at is at_from departs made to_at =
      let state_is : made.0 ≡ from = same_Some made.0 from (sym made.1 ∙ at_from) in
      ⊎_elim
      (λ (inner : at_number states j ≡ Some to). inr (record {
        is_leg = ap (λ (n : ℕ). Wait n) departs.0;
        weight = made.2.weight;
        rated = ap (option_map (λ park. park.weight)) (park_of made.0 from made.2 state_is made.3);
        minutes = ap (λ (w : Road). w.minutes) (sym is) ∙ ap (λ (w : TimedArc). w.minutes) made.5 ∙ departs.0;
        cost = ap (λ (w : Road). w.cost) (sym is) ∙ ap (λ (w : TimedArc). w.cost) made.5 ∙ ap (λ (n : ℕ). n * made.2.weight) departs.0;
        shut = λ t. shut_with x t from.node.0 arc made.2 at (park_of made.0 from made.2 state_is made.3) (ap (λ (w : TimedArc). w.closed) made.5);
        to = to;
        head = ap (at_number states) (ap (λ (w : Road). w.head) (sym is) ∙ ap (λ (w : TimedArc). w.head.0) made.5) ∙ inner;
        node = departs.3;
        none = departs.4;
      }))
      (λ (end : (j ≡ length states + 1) × (to.node.0 ≡ goal) × ((n : ℕ) → Wait k ≡ Wait n → ⊥)). absurd (end.2 k refl))
      to_at

  tail_of : (leg : Leg) (i j : ℕ) (arc : TimedArc) → IsArcFor net states i j leg arc → arc.tail.0 ≡ i
  tail_of (Drive a) i j arc made = ap (λ (w : TimedArc). w.tail.0) made.2
  tail_of (Wait k) i j arc made = ap (λ (w : TimedArc). w.tail.0) made.5

  drive_no_wait : (leg : Leg) (a : ℕ) (k : ℕ) → leg ≡ Drive (record { 0 = a }) → leg ≡ Wait k → ⊥
  drive_no_wait leg a k is wait = not_wait a k (sym wait ∙ is)

  each_way : (x : ℕ) (r : Road) → (setting_of big).road x ≡ Some r → IsWay (setting_of net) (setting_of big) rule goal states sources x r
  unfolding big
  each_way x r is =
      let found = map_some (at_number arcs x) road_of r is in
      let arc = found.0 in
      let one = built.each x arc found.1 in
      let way = one.2.way in
      let sound = all_in (IsSoundWay (setting_of net) rule states) ways way explored.facts.each_way one.2.is_one in
      let tail : r.tail ≡ way.from = ⊎_elim
      (λ (inner : IsArcFor net states way.from way.to way.leg arc).
      ap (λ (w : Road). w.tail) (sym found.2) ∙ tail_of way.leg way.from way.to arc inner)
      (λ (copy : IsArcFor net states way.from (length states + 1) way.leg arc × Arrives states goal way).
      ap (λ (w : Road). w.tail) (sym found.2) ∙ tail_of way.leg way.from (length states + 1) arc copy.0)
      one.2.made in
      record {
        from = sound.from;
        tail = ap (at_number states) tail ∙ sound.at_from;
        leg = way.leg;
        source = one.1 ∙ ap (λ (w : Leg). Some w) (sym one.2.by);
        way = ⊎_elim
            (λ (inner : IsArcFor net states way.from way.to way.leg arc).
            by_leg way.leg x r arc sound.from sound.to way.from way.to found.1 found.2 sound.at_from sound.departs inner (inl sound.at_to))
            (λ (copy : IsArcFor net states way.from (length states + 1) way.leg arc × Arrives states goal way).
            by_leg way.leg x r arc sound.from sound.to way.from (length states + 1) found.1 found.2 sound.at_from sound.departs copy.0
            (inr (
              refl,
              ap (λ (w : State). w.node.0) (same_Some sound.to copy.1.1.0 (sym sound.at_to ∙ copy.1.1.1)) ∙ copy.1.1.2,
              λ k wait. drive_no_wait way.leg copy.1.0.0.0 k copy.1.0.1 wait,
            )))
            one.2.made;
      }

  drive_to : Road → State → State
  drive_to over from = record { node = record { 0 = over.head }; driven = from.driven + over.minutes }

  can_way : (i a : ℕ) (from : State) (over : Road) → CanDrive (setting_of net) rule states i a from over
      → HasWay states ways i (Drive (record { 0 = a })) (drive_to over from)
  unfolding drive_to
  can_way i a from over can = way_of (setting_of net) origin rule states ways explored.facts explored.distinct i from (Drive (record { 0 = a }))
      (drive_to over from) can.at
      (over, can.is, can.tail, can.within, refl, refl)

  drive_road : (i j a x : ℕ) (from : State) (over : Road) (arc : TimedArc) → CanDrive (setting_of net) rule states i a from over → at_number arcs x ≡ Some arc
      → IsArcFor net states i j (Drive (record { 0 = a })) arc
      → (road : HasRoad (setting_of big) i j over.minutes over.cost) × ((t : ℕ) → (setting_of big).shut road.x t ≡ (setting_of net).shut a t)
  unfolding big
  drive_road i j a x from over arc can at made =
      let same : road_of made.0 ≡ over = same_Some (road_of made.0) over (sym (ap (option_map road_of) made.1) ∙ can.is) in (
        record {
          x = x;
          is = ap (option_map road_of) at ∙ ap (λ (w : Road). Some w) (same_road (road_of arc) _
              (ap (λ (w : TimedArc). w.tail.0) made.2) (ap (λ (w : TimedArc). w.head.0) made.2)
              (ap (λ (w : TimedArc). w.minutes) made.2 ∙ ap (λ (w : Road). w.minutes) same)
              (ap (λ (w : TimedArc). w.cost) made.2 ∙ ap (λ (w : Road). w.cost) same));
        },
        λ t. shut_as x t arc made.0 a at made.1 (ap (λ (w : TimedArc). w.closed) made.2),
      )

  -- what is said of an arc for a way is said of one for its leg and its number
  arc_by : (i j : ℕ) (leg : Leg) (way : Way) (arc : TimedArc) → way.from ≡ i → way.leg ≡ leg → IsArcFor net states way.from j way.leg arc
      → IsArcFor net states i j leg arc
  arc_by i j leg way arc from by made =
      subst (λ (l : Leg). IsArcFor net states i j l arc) by
      (subst (λ (n : ℕ). IsArcFor net states n j way.leg arc) from made)

  drives : (i a : ℕ) (from : State) (over : Road) → CanDrive (setting_of net) rule states i a from over
      → (j : ℕ) × (to : State) × (at_number states j ≡ Some to) × (to.node.0 ≡ over.head) × (to.driven ≡ from.driven + over.minutes)
      × (road : HasRoad (setting_of big) i j over.minutes over.cost) × ((t : ℕ) → (setting_of big).shut road.x t ≡ (setting_of net).shut a t)
  unfolding drive_to
  drives i a from over can =
      let has = can_way i a from over can in
      let arc = built.all has.way has.is_one in
      let on = drive_road i has.way.to a arc.0 from over arc.1 can arc.2 (arc_by i has.way.to (Drive (record { 0 = a })) has.way arc.1 has.from has.by arc.3) in
      (has.way.to, drive_to over from, has.at, refl, refl, on.0, on.1)

  arrivals : (i a : ℕ) (from : State) (over : Road) → CanDrive (setting_of net) rule states i a from over → over.head ≡ goal
      → (road : HasRoad (setting_of big) i (length states + 1) over.minutes over.cost) × ((t : ℕ) → (setting_of big).shut road.x t ≡ (setting_of net).shut a t)
  unfolding drive_to
  arrivals i a from over can at_goal =
      let has = can_way i a from over can in
      let arc = built.copies has.way has.is_one ((record { 0 = a }, has.by), (drive_to over from, has.at, at_goal)) in
      drive_road i (length states + 1) a arc.0 from over arc.1 can arc.2
      (arc_by i (length states + 1) (Drive (record { 0 = a })) has.way arc.1 has.from has.by arc.3)

  breaks : (i weight : ℕ) (from : State) → at_number states i ≡ Some from → (setting_of net).weight from.node.0 ≡ Some weight → (from.driven ≡ 0 → ⊥)
      → (j : ℕ) × (to : State) × (at_number states j ≡ Some to) × (to.node.0 ≡ from.node.0) × (to.driven ≡ 0)
      × (road : HasRoad (setting_of big) i j rule.rest (rule.rest * weight))
      × ((t : ℕ) → (setting_of big).shut road.x t ≡ (setting_of net).wait_shut from.node.0 t)
  unfolding big
  breaks i weight from at rated loaded =
      let to : State = record { node = from.node; driven = 0 } in
      let has = way_of (setting_of net) origin rule states ways explored.facts explored.distinct i from (Wait rule.rest) to at
      (refl, (weight, rated), loaded, refl, refl) in
      let arc = built.all has.way has.is_one in
      let made = arc_by i has.way.to (Wait rule.rest) has.way arc.1 has.from has.by arc.3 in
      let state_is : made.0 ≡ from = same_Some made.0 from (sym made.1 ∙ at) in
      let park_is : park_at net from.node.0 ≡ Some made.2 = park_of made.0 from made.2 state_is made.3 in
      let weight_is : made.2.weight ≡ weight = weight_of from.node.0 weight made.2 park_is rated in (
        has.way.to,
        to,
        has.at,
        refl,
        refl,
        record {
          x = arc.0;
          is = ap (option_map road_of) arc.2 ∙ ap (λ (w : Road). Some w) (same_road (road_of arc.1) _
              (ap (λ (w : TimedArc). w.tail.0) made.5) (ap (λ (w : TimedArc). w.head.0) made.5) (ap (λ (w : TimedArc). w.minutes) made.5)
              (ap (λ (w : TimedArc). w.cost) made.5 ∙ ap (λ (n : ℕ). rule.rest * n) weight_is));
        },
        λ t. shut_with arc.0 t from.node.0 arc.1 made.2 arc.2 park_is (ap (λ (w : TimedArc). w.closed) made.5),
      )

  -- a state has the park of its node
  park_here : (i : ℕ) (from : State) → at_number states i ≡ Some from → park_at (net_over net states arcs) i ≡ park_at net from.node.0
  unfolding park_over
  park_here i from at = ap option_flatten (at_left (map (park_over net) states) (None ∷ []) i (park_over net from)
      (at_number-map (park_over net) states i ∙ ap (option_map (park_over net)) at))

  -- the lists of closed runs are the same
  same_runs : (o : Option Park) → shut_by (net_over net states arcs) o ≡ shut_by net o
  same_runs None = refl
  same_runs (Some park) = refl

  -- the net over these states
  pub is_state_net : IsStateNet (setting_of net) (setting_of (net_over net states arcs)) rule origin goal states sources
  unfolding big park_over
  is_state_net = record {
    first = explored.facts.first;
    at_first = explored.facts.at_first;
    first_node = explored.facts.first_node;
    first_driven = explored.facts.first_driven;
    ways = each_way;
    weights = λ i from at. ap (option_map (λ park. park.weight)) (park_here i from at);
    wait_shut = λ i from at t. ap (λ (o : Option Park). any_has (shut_by (net_over net states arcs) o) t) (park_here i from at)
        ∙ ap (λ (w : List Run). any_has w t) (same_runs (park_at net from.node.0));
    end = ap (λ (o : Option (Option Park)). option_map (λ park. park.weight) (option_flatten o))
        (ap (λ (n : ℕ). at_number (map (park_over net) states ++ None ∷ []) (n + 1)) (sym (length-map states (park_over net)))
        ∙ at_last (map (park_over net) states) None);
    drives = drives;
    arrivals = arrivals;
    breaks = breaks;
  }
