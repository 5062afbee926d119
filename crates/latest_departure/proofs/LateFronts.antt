-- The front of the mirrored net is the late front.
use Rattle.std.proofs.Common.{◌≡◌, ◌⊎◌, inl, inr, ⊎_elim, ℕ, ◌+◌, ◌-◌, ◌≤◌, ◌<◌, List, [], ◌∷◌, ◌++◌, length, map, reverse, replicate, get_or, All, refl, sym}
use Rattle.std.proofs.Common.{◌∙◌, ap, subst, arith, append_assoc, length-append, Option, Some}
use Rattle.std.specs.Prelude.{⊤, ◌≢◌, unwrap_or}
use Rattle.std.proofs.lemmas.Bool.{cases_eq}
use Rattle.std.proofs.lemmas.List.{length-reverse, reverse-append, reverse-reverse}
use Rattle.std.proofs.lemmas.Option.{same_Some}
use Rattle.std.proofs.lemmas.List.Elements.{All-map}
use Rattle.route_base.specs.Setting.{Setting}
use Rattle.route_base.specs.Itinerary.{Position, Step, drive, wait, Moves, Walks}
use Rattle.route_base.specs.Legs.{start_of, end_of, steps_of, Achieves, HasNoEmptyWait, HasNoNeighbouringWaits, CostsFit}
use Rattle.route_base.specs.FirstItinerary.{ComesBefore, IsFirst}
use Rattle.route_base.specs.Front.{IsAchieved, IsNoWorse, IsRight, pairs_of}
use Rattle.route_base.specs.Net.{Net, setting_of, IsGoodNet, IsGoodRequest}
use Rattle.route_base.specs.declared.limits.TheConstants.{LONGEST_HORIZON}
use Rattle.route_base.specs.declared.types.Leg.{Leg}
use Rattle.route_base.specs.declared.types.NodeId.{NodeId}
use Rattle.route_base.specs.declared.types.Pair.{Pair}
use Rattle.route_base.specs.declared.types.Request.{Request}
use Rattle.route_base.specs.declared.types.Route.{Route}
use Rattle.route_base.proofs.LegLists.{steps_of-append}
use Rattle.route_base.proofs.SomeAnswer.{some_routes}
use Rattle.route_base.proofs.Walking.{walk_in_time, walk_grows, walk_parts, walks_same}
use Rattle.route_base.proofs.Waiting.{same_position}
use Rattle.front_transport.specs.CheapArcs.{HasCheapArcs}
use Rattle.front_transport.specs.Inside.Carrying.{IsPartialOrder, Carries}
use Rattle.front_transport.specs.ParetoFronts.{ArrivesBefore}
use Rattle.route_base.proofs.Costs.{fits}
use Rattle.front_transport.proofs.PairOrder.{no_worse_order}
use Rattle.front_transport.proofs.Transport.{carried}
use Rattle.tidy_legs.proofs.TurnedLegs.{steps_reversed, no_empty_reversed, apart_reversed}
use Rattle.latest_departure.specs.LateFront.{LatePair, request_from, pair_at, IsLateAchieved, IsLateNoWorse, DepartsAfter, IsLateFront, late_pair_of}
use Rattle.latest_departure.specs.LateFront.{AchievesLate, AreRightLate, IsFirstLate, IsListedBefore}
use Rattle.latest_departure.specs.Inside.Mirror.{GoesOnBefore, behind_last, mirrored, mirrored_request, after_gate, late_of, own_legs_of}
use Rattle.latest_departure.specs.declared.routes.LateRoute.{LateRoute}
use Rattle.latest_departure.proofs.AfterGate.{steps_after, no_empty_after, apart_after, waits_beyond}
use Rattle.latest_departure.proofs.FirstLate.{IsBeginning, beginning, behind_beginning, behind_others, gate_last}
use Rattle.latest_departure.proofs.OwnLegs.{at_goal}
use Rattle.latest_departure.proofs.OwnWalks.{IsCut, apart_part, cut, longest, no_empty_part}
use Rattle.latest_departure.proofs.Gate.{beyond, at_place, through, entered, IsBehind}
use Rattle.latest_departure.proofs.MirroredNet.{z, z_is, there, back, head_inner, cheap_mirrored, takes_mirrored, numbers_mirrored}
use Rattle.latest_departure.proofs.TurnedWalks.{mirror_at, turned_walk}

late_pair : ℕ → ℕ → LatePair
late_pair departure cost = record { departure = departure; cost = cost }

same_late_pair : (p q : LatePair) → p.departure ≡ q.departure → p.cost ≡ q.cost → p ≡ q
unfolding late_pair
same_late_pair p q d c = ap (λ (w : ℕ). late_pair w p.cost) d ∙ ap (λ (w : ℕ). late_pair q.departure w) c

either : (p q : LatePair) → (p ≡ q) ⊎ (p ≢ q)
either p q = ⊎_elim
    (λ (d : p.departure ≡ q.departure). ⊎_elim
    (λ (c : p.cost ≡ q.cost). inl (same_late_pair p q d c))
    (λ (c : p.cost ≡ q.cost → ⊥). inr (λ is. c (ap (λ (w : LatePair). w.cost) is)))
    (cases_eq p.cost q.cost))
    (λ (d : p.departure ≡ q.departure → ⊥). inr (λ is. d (ap (λ (w : LatePair). w.departure) is)))
    (cases_eq p.departure q.departure)

late_order : IsPartialOrder IsLateNoWorse
late_order = record {
  itself = λ p. (omega arith, omega arith);
  joined = λ p q r first second. (omega (arith, first.0, second.0), omega (arith, first.1, second.1));
  one = λ p q first second. same_late_pair p q (omega (arith, first.0, second.0)) (omega (arith, first.1, second.1));
  same = either;
}

-- a pair of the mirrored net as a departure
abbrev pub late_pair_at : ℕ → Pair → LatePair
late_pair_at sum p = record { departure = sum - p.arrival; cost = p.cost }

same_items : (net : Net) (goal : NodeId) (sum : ℕ) (routes : List Route)
    → map (late_pair_at sum) (pairs_of routes) ≡ map late_pair_of (map (late_of net goal sum) routes)
same_items net goal sum [] = refl
same_items net goal sum (route ∷ routes) = ap (λ (w : List LatePair). late_pair_at sum route.pair ∷ w) (same_items net goal sum routes)

two_lists : (xs ys us vs : List Step) → xs ≡ us → ys ≡ vs → ComesBefore xs ys → ComesBefore us vs
two_lists xs ys us vs first second before =
    subst (λ (w : List Step). ComesBefore us w) second (subst (λ (w : List Step). ComesBefore w ys) first before)

between : (s : Setting) (until : ℕ) (xs : List Step) (p q p' q' : Position) → p ≡ p' → q ≡ q' → Walks s until xs p q → Walks s until xs p' q'
between s until xs p q p' q' first last walk =
    subst (λ (w : Position). Walks s until xs w q') first (subst (λ (w : Position). Walks s until xs p w) last walk)

module _ (net : Net) (good : IsGoodNet net) (r : Request) (asked : IsGoodRequest net r) (in_order : r.depart ≤ r.until) where
  -- the mirrored net as a setting
  zs : Setting
  zs = setting_of (z net good r.goal.0 (r.until + 1))

  inner_back : (x : Step) (p q : Position) → p.node ≤ net.nodes → Moves zs (r.until + 1 - r.depart) x p q → q.node ≤ net.nodes
  unfolding zs
  inner_back (drive a) p q inner move = omega (arith, move.node, head_inner net good r.goal.0 (r.until + 1) asked.goal.0 asked.goal.1 a move.road move.is)
  inner_back wait p q inner move = omega (arith, move.node, inner)

  -- steps of the mirrored net from the goal are a late itinerary in the other order
  record IsTurned (xs : List Step) (minute : ℕ) (p : Pair) : Type 0 where
    pub from : r.depart ≤ r.until + 1 - p.arrival
    pub early : r.until + 1 - p.arrival ≤ r.until
    pub late : p.arrival ≤ r.until + 1
    pub walk : Walks (setting_of net) r.until (reverse xs) (start_of (request_from r (r.until + 1 - p.arrival)))
        (end_of (request_from r (r.until + 1 - p.arrival)) (pair_at (r.until + 1 - minute) p.cost))

  turned : (xs : List Step) (minute : ℕ) (p : Pair) → 1 ≤ minute → p.arrival ≤ r.until + 1 - r.depart
      → Walks zs (r.until + 1 - r.depart) xs (at_place r.goal.0 minute) (end_of (mirrored_request net r) p) → IsTurned xs minute p
  unfolding zs
  turned xs minute p some late walk =
      let last : Position = end_of (mirrored_request net r) p in
      let first : Position = at_place r.goal.0 minute in
      let grows = walk_grows zs (r.until + 1 - r.depart) xs first last walk in
      record {
        from = omega (arith, late, in_order);
        early = omega (arith, grows.0, some);
        late = omega (arith, late);
        walk = between (setting_of net) r.until (reverse xs) (mirror_at (r.until + 1) p.cost last) (mirror_at (r.until + 1) p.cost first) _ _
            (same_position _ _ refl refl (omega arith)) (same_position _ _ refl refl (omega arith))
            (turned_walk zs (setting_of net) (r.until + 1) p.cost (r.until + 1 - r.depart) r.until 1 (λ v. v ≤ net.nodes)
            (back net good r.goal.0 (r.until + 1)) (omega arith) inner_back xs first last
            some (omega (arith, late)) (omega arith) asked.goal.1 walk);
      }

  -- a walk of the mirrored net behind its way through the gate
  record IsEntered (steps : List Step) (p : Pair) : Type 0 where
    pub behind : IsBehind net good r.goal.0 (r.until + 1) (r.until + 1 - r.depart) steps 0 (end_of (mirrored_request net r) p)
    pub some : 1 ≤ behind.minute
    pub late : p.arrival ≤ r.until + 1 - r.depart

  is_entered : (steps : List Step) (p : Pair) → Walks zs (r.until + 1 - r.depart) steps (start_of (mirrored_request net r))
      (end_of (mirrored_request net r) p) → IsEntered steps p
  unfolding zs
  is_entered steps p walk =
      let behind = through net good r.goal.0 (r.until + 1) (r.until + 1 - r.depart) steps 0 (end_of (mirrored_request net r) p) asked.origin.1 walk in
      record {
        behind = behind;
        some = omega (arith, behind.later);
        late = walk_in_time zs (r.until + 1 - r.depart) steps (start_of (mirrored_request net r)) (end_of (mirrored_request net r) p) (omega arith) walk;
      }

  turned_all : (steps : List Step) (p : Pair) (in_there : IsEntered steps p) → IsTurned (beyond steps) in_there.behind.minute p
  unfolding zs
  turned_all steps p in_there = turned (beyond steps) in_there.behind.minute p in_there.some in_there.late in_there.behind.walk

  sound : (p : Pair) → IsAchieved zs (mirrored_request net r) p → IsLateAchieved (setting_of net) r (late_pair_at (r.until + 1) p)
  sound p can =
      let in_there = is_entered can.steps p can.walk in
      let back = turned_all can.steps p in_there in
      record {
        from = back.from;
        arrival = r.until + 1 - in_there.behind.minute;
        achieved = record { in_time = back.early; steps = reverse (beyond can.steps); walk = back.walk };
      }

  -- a late itinerary in the other order, behind the gate, is a walk of the mirrored net
  mirrored_way : (steps : List Step) (departure arrival cost : ℕ) → r.depart ≤ departure → departure ≤ r.until
      → Walks (setting_of net) r.until steps (start_of (request_from r departure)) (end_of (request_from r departure) (pair_at arrival cost))
      → Walks zs (r.until + 1 - r.depart) (replicate (r.until - arrival) wait ++ drive (length net.arcs + 1) ∷ reverse steps)
      (start_of (mirrored_request net r)) (end_of (mirrored_request net r) (pair_at (r.until + 1 - departure) cost))
  unfolding zs
  mirrored_way steps departure arrival cost from early walk =
      let first : Position = start_of (request_from r departure) in
      let last : Position = end_of (request_from r departure) (pair_at arrival cost) in
      let late : arrival ≤ r.until = walk_in_time (setting_of net) r.until steps first last early walk in
      let grows = walk_grows (setting_of net) r.until steps first last walk in
      let back : Walks zs (r.until + 1 - r.depart) (reverse steps) (mirror_at (r.until + 1) cost last) (mirror_at (r.until + 1) cost first) =
      turned_walk (setting_of net) zs (r.until + 1) cost r.until (r.until + 1 - r.depart) r.depart (λ v. ⊤)
      (there net good r.goal.0 (r.until + 1)) (omega (arith, in_order)) (λ x p q inner move. tt) steps first last
      from (omega (arith, late)) (omega arith) tt walk in
      entered net good r.goal.0 (r.until + 1) (r.until + 1 - r.depart) (r.until - arrival) (reverse steps)
      (end_of (mirrored_request net r) (pair_at (r.until + 1 - departure) cost)) (omega (arith, late, grows.0, from, in_order))
      (between zs (r.until + 1 - r.depart) (reverse steps) (mirror_at (r.until + 1) cost last) (mirror_at (r.until + 1) cost first) _ _
      (same_position _ _ refl (omega (arith, late)) (omega arith)) (same_position _ _ refl refl (omega arith)) back)

  covers : (b : LatePair) → IsLateAchieved (setting_of net) r b
      → (p : Pair) × IsAchieved zs (mirrored_request net r) p × IsLateNoWorse (late_pair_at (r.until + 1) p) b
  covers b left = (
    pair_at (r.until + 1 - b.departure) b.cost,
    record {
      in_time = omega arith;
      steps = replicate (r.until - left.arrival) wait ++ drive (length net.arcs + 1) ∷ reverse left.achieved.steps;
      walk = mirrored_way left.achieved.steps b.departure left.arrival b.cost left.from left.achieved.in_time left.achieved.walk;
    },
    (omega (arith, left.achieved.in_time), omega arith),
  )

  in_time : (p : Pair) → IsAchieved zs (mirrored_request net r) p → p.arrival ≤ r.until + 1
  in_time p can = (turned_all can.steps p (is_entered can.steps p can.walk)).late

  carries : Carries IsNoWorse ArrivesBefore (IsAchieved zs (mirrored_request net r)) IsLateNoWorse DepartsAfter (IsLateAchieved (setting_of net) r)
      (late_pair_at (r.until + 1))
  carries = record {
    sound = sound;
    covers = covers;
    keeps = λ a c can_a can_c le. (omega (arith, le.0), le.1);
    tells = λ a c can_a can_c le. (omega (arith, le.0, in_time a can_a, in_time c can_c), le.1);
    before = λ a c can_a can_c lt. omega (arith, lt, in_time a can_a, in_time c can_c);
  }

  module _ (route : Route) (fine : Achieves zs (mirrored_request net r) route.legs route.pair × HasNoNeighbouringWaits route.legs) where
    in_there : IsEntered (steps_of route.legs) route.pair
    in_there = is_entered (steps_of route.legs) route.pair fine.0.walk

    -- the legs behind the gate
    legs : List Leg
    legs = after_gate route.legs

    minute : ℕ
    minute = in_there.behind.minute

    steps_are : beyond (steps_of route.legs) ≡ steps_of legs
    unfolding legs
    steps_are = steps_after route.legs fine.1

    -- those behind the last time that the goal is reached at no cost
    own : List Leg
    own = (at_goal net r.goal.0 r.goal legs refl).0

    is_own : behind_last net r.goal.0 r.goal legs ≡ Some own
    unfolding own
    is_own = (at_goal net r.goal.0 r.goal legs refl).1

    cut_there : IsCut net good r.goal asked.goal.0 asked.goal.1 (r.until + 1) (r.until + 1 - r.depart) legs own (at_place r.goal.0 minute)
        (end_of (mirrored_request net r) route.pair)
    unfolding zs minute
    cut_there = cut net good r.goal asked.goal.0 asked.goal.1 (r.until + 1) (r.until + 1 - r.depart) r.goal legs own (at_place r.goal.0 minute)
        (end_of (mirrored_request net r) route.pair) is_own refl asked.goal.1
        (subst (λ (w : List Step). Walks zs (r.until + 1 - r.depart) w (at_place r.goal.0 minute) (end_of (mirrored_request net r) route.pair)) steps_are
        in_there.behind.walk)

    -- the minute from which on they lead away
    left : ℕ
    left = cut_there.at.minute

    way : Walks zs (r.until + 1 - r.depart) (steps_of own) (at_place r.goal.0 left) (end_of (mirrored_request net r) route.pair)
    unfolding zs left
    way = between zs (r.until + 1 - r.depart) (steps_of own) cut_there.at (end_of (mirrored_request net r) route.pair) (at_place r.goal.0 left)
        (end_of (mirrored_request net r) route.pair) (same_position cut_there.at (at_place r.goal.0 left) cut_there.node refl cut_there.cost) refl cut_there.on

    turned_own : IsTurned (steps_of own) left route.pair
    unfolding zs left minute
    turned_own =
        let grows = walk_grows zs (r.until + 1 - r.depart) (steps_of cut_there.taken) (at_place r.goal.0 minute) cut_there.at cut_there.walk in
        turned (steps_of own) left route.pair (omega (arith, grows.0, in_there.some)) in_there.late way

    late_legs : reverse (own_legs_of net r.goal (after_gate route.legs)) ≡ reverse own
    unfolding legs
    late_legs = ap (λ (o : Option (List Leg)). reverse (unwrap_or o legs)) is_own

    leaves : AchievesLate (setting_of net) r (late_of net r.goal (r.until + 1) route)
    unfolding legs
    leaves = record {
      from = turned_own.from;
      arrival = r.until + 1 - left;
      achieves = record {
        in_time = turned_own.early;
        no_empty_wait = subst HasNoEmptyWait (sym late_legs) (no_empty_reversed own
            (no_empty_part cut_there.taken own (subst HasNoEmptyWait cut_there.parts (no_empty_after route.legs fine.0.no_empty_wait))));
        walk = subst (λ (w : List Step). Walks (setting_of net) r.until w (start_of (request_from r (r.until + 1 - route.pair.arrival)))
            (end_of (request_from r (r.until + 1 - route.pair.arrival)) (pair_at (r.until + 1 - left) route.pair.cost)))
            (sym (ap steps_of late_legs ∙ steps_reversed own)) turned_own.walk;
      };
      apart = subst HasNoNeighbouringWaits (sym late_legs) (apart_reversed own
          (apart_part cut_there.taken own (subst HasNoNeighbouringWaits cut_there.parts (apart_after route.legs fine.1))));
    }

    gate_step : Step
    gate_step = drive (length net.arcs + 1)

    -- of the steps from the goal no others go on before
    goes_first : IsFirst zs (mirrored_request net r) route.legs route.pair → (steps : List Step) (arrival : ℕ)
        → Walks (setting_of net) r.until steps (start_of (request_from r (r.until + 1 - route.pair.arrival)))
        (end_of (request_from r (r.until + 1 - route.pair.arrival)) (pair_at arrival route.pair.cost))
        → (steps ≡ reverse (steps_of legs)) ⊎ GoesOnBefore (reverse (steps_of legs)) steps
    unfolding zs legs gate_step
    goes_first first steps arrival walk =
        let free : ℕ = r.until - arrival in
        let back = turned_all (steps_of route.legs) route.pair in_there in
        let behind = in_there.behind in
        let are : reverse (beyond (steps_of route.legs)) ≡ reverse (steps_of legs) = ap reverse steps_are in
        ⊎_elim
        (λ (same : replicate free wait ++ gate_step ∷ reverse steps ≡ steps_of route.legs).
        inl (sym (reverse-reverse steps) ∙ ap reverse (sym (waits_beyond free (gate_step ∷ reverse steps)) ∙ ap beyond same) ∙ are))
        (λ (before : ComesBefore (reverse (steps_of route.legs)) (reverse (replicate free wait ++ gate_step ∷ reverse steps))). ⊎_elim
        (λ (same : steps ≡ reverse (beyond (steps_of route.legs))). inl (same ∙ are))
        (λ (goes_on : GoesOnBefore (reverse (beyond (steps_of route.legs))) steps).
        inr (subst (λ (w : List Step). GoesOnBefore w steps) are goes_on))
        (gate_last net r.until (reverse (beyond (steps_of route.legs))) steps (replicate behind.waits wait) (replicate free wait) _ _ walk
        (two_lists _ _ _ _
        (ap reverse behind.is ∙ behind_others behind.waits (length net.arcs + 1) (beyond (steps_of route.legs)))
        (behind_others free (length net.arcs + 1) (reverse steps)
        ∙ ap (λ (w : List Step). w ++ gate_step ∷ replicate free wait) (reverse-reverse steps)) before)))
        (first (replicate free wait ++ gate_step ∷ reverse steps)
        (between zs (r.until + 1 - r.depart) (replicate free wait ++ gate_step ∷ reverse steps) _ _ _ _ refl
        (same_position _ _ refl (omega (arith, back.late)) refl)
        (mirrored_way steps (r.until + 1 - route.pair.arrival) arrival route.pair.cost back.from back.early walk)))

    -- the own legs' steps, in the other order, are the beginning of all of them
    begins : reverse (steps_of legs) ≡ reverse (steps_of own) ++ reverse (steps_of cut_there.taken)
    begins = ap (λ (l : List Leg). reverse (steps_of l)) cut_there.parts ∙ ap reverse (steps_of-append cut_there.taken own)
        ∙ reverse-append (steps_of cut_there.taken) (steps_of own)

    -- no late itinerary of the pair is a part of that at its beginning
    never_part : (steps : List Step) (arrival : ℕ)
        → Walks (setting_of net) r.until steps (start_of (request_from r (r.until + 1 - route.pair.arrival)))
        (end_of (request_from r (r.until + 1 - route.pair.arrival)) (pair_at arrival route.pair.cost))
        → IsBeginning (reverse (steps_of own)) steps → ⊥
    unfolding zs legs minute
    never_part steps arrival walk part =
        let departure : ℕ = r.until + 1 - route.pair.arrival in
        let first : Position = start_of (request_from r departure) in
        let last : Position = end_of (request_from r departure) (pair_at (r.until + 1 - minute) route.pair.cost) in
        let mid : Position = end_of (request_from r departure) (pair_at arrival route.pair.cost) in
        let more : List Step = (part.step ∷ part.left) ++ reverse (steps_of cut_there.taken) in
        let all : reverse (steps_of legs) ≡ steps ++ more =
        begins ∙ ap (λ (w : List Step). w ++ reverse (steps_of cut_there.taken)) part.is
        ∙ append_assoc steps (part.step ∷ part.left) (reverse (steps_of cut_there.taken)) in
        let back = turned_all (steps_of route.legs) route.pair in_there in
        let whole : Walks (setting_of net) r.until (steps ++ more) first last =
        subst (λ (w : List Step). Walks (setting_of net) r.until w first last) (ap reverse steps_are ∙ all) back.walk in
        let parts = walk_parts (setting_of net) r.until steps more first last whole in
        let there_is : parts.0 ≡ mid = walks_same (setting_of net) r.until steps first parts.0 mid parts.1 walk in
        let on : Walks (setting_of net) r.until more mid last = subst (λ (p : Position). Walks (setting_of net) r.until more p last) there_is parts.2 in
        let grows = walk_grows (setting_of net) r.until steps first mid walk in
        let late = walk_in_time (setting_of net) r.until (steps ++ more) first last back.early whole in
        let round : Walks zs (r.until + 1 - r.depart) (reverse more) (mirror_at (r.until + 1) route.pair.cost last)
        (mirror_at (r.until + 1) route.pair.cost mid) =
        turned_walk (setting_of net) zs (r.until + 1) route.pair.cost r.until (r.until + 1 - r.depart) r.depart (λ v. ⊤)
        (there net good r.goal.0 (r.until + 1)) (omega (arith, in_order)) (λ x p q inner move. tt) more mid last
        (omega (arith, grows.0, back.from)) (omega (arith, late)) (omega arith) tt on in
        let begun : Walks zs (r.until + 1 - r.depart) (reverse more) (at_place r.goal.0 minute) (mirror_at (r.until + 1) route.pair.cost mid) =
        between zs (r.until + 1 - r.depart) (reverse more) (mirror_at (r.until + 1) route.pair.cost last) (mirror_at (r.until + 1) route.pair.cost mid) _ _
        (same_position _ _ refl (omega (arith, in_there.some, bound)) (omega arith)) refl round in
        let cut_list : steps_of legs ≡ reverse more ++ reverse steps =
        sym (reverse-reverse (steps_of legs)) ∙ ap reverse all ∙ reverse-append steps more in
        let one = longest net good r.goal asked.goal.0 asked.goal.1 (r.until + 1) (r.until + 1 - r.depart) r.goal legs (reverse more) (reverse steps)
        (at_place r.goal.0 minute) (mirror_at (r.until + 1) route.pair.cost mid) (no_empty_after route.legs fine.0.no_empty_wait) refl asked.goal.1
        cut_list begun refl (omega arith) in
        let same : one.0 ≡ own = same_Some one.0 own (sym one.1 ∙ is_own) in
        omega (
          arith,
          one.2,
          ap (λ (l : List Leg). length (steps_of l)) same,
          length-reverse steps,
          ap (λ (l : List Step). length l) part.is,
          length-append steps (part.step ∷ part.left),
          length-reverse (steps_of own),
        )
      where
        bound : in_there.behind.minute ≤ r.until + 1
        bound =
            let grows = walk_grows zs (r.until + 1 - r.depart) (beyond (steps_of route.legs)) (at_place r.goal.0 in_there.behind.minute)
            (end_of (mirrored_request net r) route.pair) in_there.behind.walk in
            omega (arith, grows.0, in_there.late)

    -- the first itinerary of the mirrored net, which is compared from its end, is the first late one
    first_late : IsFirst zs (mirrored_request net r) route.legs route.pair → IsFirstLate (setting_of net) r (late_of net r.goal (r.until + 1) route)
    first_late first steps arrival walk =
        let are : reverse (steps_of own) ≡ steps_of (reverse (own_legs_of net r.goal (after_gate route.legs))) =
        sym (ap steps_of late_legs ∙ steps_reversed own) in
        let told : (steps ≡ reverse (steps_of own)) ⊎ IsListedBefore (reverse (steps_of own)) steps = ⊎_elim
        (λ (same : steps ≡ reverse (steps_of legs)). ⊎_elim
        (λ (whole : reverse (steps_of own) ++ reverse (steps_of cut_there.taken) ≡ reverse (steps_of own)). inl (same ∙ begins ∙ whole))
        (λ (before : IsListedBefore (reverse (steps_of own)) (reverse (steps_of own) ++ reverse (steps_of cut_there.taken))).
        inr (subst (λ (w : List Step). IsListedBefore (reverse (steps_of own)) w) (sym (same ∙ begins)) before))
        (beginning (reverse (steps_of own)) (reverse (steps_of cut_there.taken))))
        (λ (before : GoesOnBefore (reverse (steps_of legs)) steps). ⊎_elim
        (λ (fine : (steps ≡ reverse (steps_of own)) ⊎ IsListedBefore (reverse (steps_of own)) steps). fine)
        (λ (part : IsBeginning (reverse (steps_of own)) steps). absurd (never_part steps arrival walk part))
        (behind_beginning (reverse (steps_of own)) (reverse (steps_of cut_there.taken)) steps
        (subst (λ (w : List Step). GoesOnBefore w steps) begins before)))
        (goes_first first steps arrival walk) in
        subst (λ (w : List Step). (steps ≡ w) ⊎ IsListedBefore w steps) are told

  right_there : (routes : List Route) → IsRight zs (mirrored_request net r) routes
      → AreRightLate (setting_of net) r (map (late_of net r.goal (r.until + 1)) routes)
  right_there routes right = record {
    front = subst (IsLateFront (setting_of net) r) (same_items net r.goal (r.until + 1) routes)
        (carried IsNoWorse ArrivesBefore (IsAchieved zs (mirrored_request net r)) IsLateNoWorse DepartsAfter (IsLateAchieved (setting_of net) r)
        (late_pair_at (r.until + 1)) no_worse_order late_order carries (pairs_of routes)
        (record { ordered = right.front.rising; each = right.front.each }));
    legs = All-map (AchievesLate (setting_of net) r) (late_of net r.goal (r.until + 1)) routes (λ k d within. leaves _ (right.legs k d within));
    first = All-map (IsFirstLate (setting_of net) r) (late_of net r.goal (r.until + 1)) routes
        (λ k d within. first_late _ (right.legs k d within) (right.first k d within));
  }

  in_time_there : (routes : List Route) → IsRight zs (mirrored_request net r) routes → All (λ x. x.pair.arrival ≤ r.until + 1) routes
  in_time_there routes right k d within =
      let route : Route = get_or routes k d in
      (turned_all (steps_of route.legs) route.pair (is_entered (steps_of route.legs) route.pair (right.legs k d within).0.walk)).late

  -- there are right late routes
  pub some_late : HasCheapArcs net → r.until - r.depart < LONGEST_HORIZON → (routes : List LateRoute) × AreRightLate (setting_of net) r routes
  unfolding zs
  some_late cheap short =
      let made : Net = z net good r.goal.0 (r.until + 1) in
      let all = some_routes zs (mirrored_request net r) (takes_mirrored net good r.goal.0 (r.until + 1)) (length made.arcs)
      (numbers_mirrored net good r.goal.0 (r.until + 1))
      (fits zs (mirrored_request net r) (cheap_mirrored net good r.goal.0 (r.until + 1) cheap) (omega arith) (omega (arith, short, in_order)))
      (omega arith) in
      (map (late_of net r.goal (r.until + 1)) all.0, right_there all.0 all.1)

  module _ (made : Net) (is : made ≡ mirrored net r.goal.0 (r.until + 1)) where
    z_setting : zs ≡ setting_of made
    unfolding zs
    z_setting = ap setting_of (z_is net good r.goal.0 (r.until + 1) ∙ sym is)

    -- the routes of the mirrored net are those of the late front
    pub right_late : (routes : List Route) → IsRight (setting_of made) (mirrored_request net r) routes
        → AreRightLate (setting_of net) r (map (late_of net r.goal (r.until + 1)) routes)
    right_late routes right = right_there routes (subst (λ (w : Setting). IsRight w (mirrored_request net r) routes) (sym z_setting) right)

    pub arrives_in_time : (routes : List Route) → IsRight (setting_of made) (mirrored_request net r) routes → All (λ x. x.pair.arrival ≤ r.until + 1) routes
    arrives_in_time routes right = in_time_there routes (subst (λ (w : Setting). IsRight w (mirrored_request net r) routes) (sym z_setting) right)

    pub mirrored_fits : HasCheapArcs net → r.until - r.depart < LONGEST_HORIZON → CostsFit (setting_of made) (mirrored_request net r)
    mirrored_fits cheap short = subst (λ (w : Net). CostsFit (setting_of w) (mirrored_request net r)) (z_is net good r.goal.0 (r.until + 1) ∙ sym is)
        (fits (setting_of (z net good r.goal.0 (r.until + 1))) (mirrored_request net r)
        (cheap_mirrored net good r.goal.0 (r.until + 1) cheap) (omega arith) (omega (arith, short, in_order)))
