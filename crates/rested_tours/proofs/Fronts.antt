-- The front over the states of rested tours is the front of rested tours.
use Rattle.std.proofs.Common.{◌≡◌, ℕ, ◌/◌, ◌%◌, ◌≤◌, ◌<◌, ◌&&◌, eqb, true, Option, None, Some, List, [], append-nil, length, map, refl, sym, ◌∙◌, ap, subst, arith}
use Rattle.std.specs.Prelude.{reverse}
use Rattle.std.proofs.lemmas.Bool.{eqb-true, eq-eqb, and_from, and_parts}
use Rattle.std.proofs.lemmas.List.{length-map}
use Rattle.std.proofs.lemmas.Nat.{div-mul-add, mod-mul-add}
use Rattle.route_base.specs.Setting.{Setting}
use Rattle.route_base.specs.Itinerary.{Step, Walks}
use Rattle.route_base.specs.Front.{IsNoWorse}
use Rattle.route_base.specs.Net.{at_number}
use Rattle.route_base.specs.declared.types.Bound.{Bound}
use Rattle.route_base.specs.declared.types.Pair.{Pair}
use Rattle.route_base.specs.declared.types.Request.{Request}
use Rattle.front_transport.specs.ParetoFronts.{IsParetoFront, ArrivesBefore}
use Rattle.front_transport.proofs.SameFronts.{same_front}
use Rattle.drive_breaks.proofs.LastBreak.{rested_from}
use Rattle.drive_breaks.proofs.Since.{HasSince, has_first}
use Rattle.drive_states.specs.declared.rule.BreakRule.{BreakRule}
use Rattle.propagation.specs.Inside.Invariants.{point}
use Rattle.state_dominance.specs.Inside.Dominance.{IsAchievedIn}
use Rattle.state_dominance.specs.Inside.Product.{IsBase, code, product, task_over}
use Rattle.state_dominance.specs.Serving.{joint, served_limit}
use Rattle.state_dominance.proofs.Served.{joint_served, joint_state}
use Rattle.stop_tour.specs.Tours.{TourPosition, TourStep, TourWalks, tour_start, tour_end}
use Rattle.stop_tour.specs.declared.stops.Stop.{Stop}
use Rattle.rested_tours.specs.Inside.TourRuler.{stop_service, tour_ruler}
use Rattle.rested_tours.specs.RestedTours.{seen, IsRestedTour, IsRestedTourAchieved, IsRestedTourFront}
use Rattle.rested_tours.proofs.TourWalking.{spot, same_spot}
use Rattle.rested_tours.proofs.Reading.{reads}
use Rattle.rested_tours.proofs.FoundWalks.{found_on}
use Rattle.rested_tours.proofs.Sound.{IsAt, goes_on}
use Rattle.rested_tours.proofs.LeastWalks.{least_walk}
use Rattle.rested_tours.proofs.StateSteps.{IsFoundBack, IsLeastBack}

-- the steps are a lawful tour with the pair, and keep the rule
pub record RestedWalk (s : Setting) (r : Request) (stops : List Stop) (rule : BreakRule) (steps : List TourStep) (pair : Pair) : Type 0 where
  pub walk : TourWalks s stops r.until steps (tour_start r) (tour_end r (length stops) pair)
  pub rested : IsRestedTour s.road rule steps

module _ (s : Setting) (r : Request) (stops : List Stop) (rule : BreakRule) (base : ℕ) (bound : ℕ → ℕ → Option Bound) (no_road : s.road 0 ≡ None)
    (long : (i : ℕ) (stop : Stop) → at_number stops i ≡ Some stop → 1 ≤ stop.service) (some : 1 ≤ rule.rest)
    (few : length stops < served_limit) (is_base : IsBase s (tour_ruler stops rule) base) (origin : r.origin.0 < base) (in_time : r.depart ≤ r.until) where
  abbrev pub count : ℕ
  count = length (map stop_service stops)

  few_services : length (map stop_service stops) < served_limit
  few_services = omega (arith, few, length-map stops stop_service)

  first_served : (code base r.origin.0 (joint 0 0) / base) % served_limit ≡ 0
  first_served = ap (λ n. n % served_limit) (div-mul-add (joint 0 0) base r.origin.0 origin) ∙ joint_served 0 0 (omega arith)

  first_state : code base r.origin.0 (joint 0 0) / base / served_limit ≡ 0
  first_state = ap (λ n. n / served_limit) (div-mul-add (joint 0 0) base r.origin.0 origin) ∙ joint_state 0 0 (omega arith)

  -- the start of a tour, and that of a walk over states
  at_first : IsAt s stops rule base r.until is_base no_road long few_services (point (code base r.origin.0 (joint 0 0)) r.depart 0) (tour_start r) []
  at_first = record {
    node = sym (mod-mul-add (joint 0 0) base r.origin.0 origin);
    minute = refl;
    cost = refl;
    served = sym first_served;
    since = subst (HasSince s.road rule []) (sym first_state) (has_first s.road rule);
    fine = omega (arith, first_state);
  }

  -- the end of a tour, and that of a walk over states to the goal
  at_goal : (node : ℕ) → (task_over s (tour_ruler stops rule) base r.origin.0 r.goal.0 r.depart r.until bound).goal node ≡ true → (p : Pair)
      → spot (point (node % base) p.arrival p.cost) (node / base % served_limit) ≡ tour_end r (length stops) p
  at_goal node goal p =
      let at = and_parts (eqb (node % base) r.goal.0) (eqb (node / base % served_limit) count && true) goal in
      let all = and_parts (eqb (node / base % served_limit) count) true at.1 in
      same_spot (spot (point (node % base) p.arrival p.cost) (node / base % served_limit)) (tour_end r (length stops) p)
      (ap (λ n. point n p.arrival p.cost) (eqb-true (node % base) r.goal.0 at.0))
      (eqb-true (node / base % served_limit) count all.0 ∙ length-map stops stop_service)

  -- what is read off a walk over states to the goal is a rested tour
  pub sound_walk : (node : ℕ) → (task_over s (tour_ruler stops rule) base r.origin.0 r.goal.0 r.depart r.until bound).goal node ≡ true
      → (xs : List Step) (p : Pair) → Walks (product s (tour_ruler stops rule) base) r.until xs (point (code base r.origin.0 (joint 0 0)) r.depart 0)
      (point node p.arrival p.cost) → RestedWalk s r stops rule (reads rule.rest base xs) p
  sound_walk node goal xs p walk =
      let on = goes_on s stops rule base r.until is_base no_road long few_services xs (point (code base r.origin.0 (joint 0 0)) r.depart 0) (tour_start r)
      (point node p.arrival p.cost) [] at_first walk in
      record {
        walk = subst (λ (w : TourPosition). TourWalks s stops r.until (reads rule.rest base xs) (tour_start r) w) (at_goal node goal p) on.walk;
        rested = rested_from s.road rule some (map seen (reads rule.rest base xs)) [] on.rested;
      }

  -- the states of such a walk, the last first
  pub found_to_goal : (node : ℕ) → (task_over s (tour_ruler stops rule) base r.origin.0 r.goal.0 r.depart r.until bound).goal node ≡ true
      → (xs : List Step) (p : Pair) → Walks (product s (tour_ruler stops rule) base) r.until xs (point (code base r.origin.0 (joint 0 0)) r.depart 0)
      (point node p.arrival p.cost) → IsFoundBack s stops rule base r.until (tour_start r) (node / base) (reverse xs) (tour_end r (length stops) p)
  found_to_goal node goal xs p walk =
      subst (λ (w : TourPosition). IsFoundBack s stops rule base r.until (tour_start r) (node / base) (reverse xs) w) (at_goal node goal p)
      (subst (λ (w : List Step). IsFoundBack s stops rule base r.until (tour_start r) (node / base) w
      (spot (point (node % base) p.arrival p.cost) (node / base % served_limit))) (append-nil (reverse xs))
      (found_on s stops rule base r.until is_base no_road long few_services (tour_start r) xs [] (point (code base r.origin.0 (joint 0 0)) r.depart 0)
      (tour_start r) (point node p.arrival p.cost) at_first (record { served = first_served; minutes = at_first.since }, refl) walk))

  sound : (p : Pair) → IsAchievedIn (task_over s (tour_ruler stops rule) base r.origin.0 r.goal.0 r.depart r.until bound) p
      → IsRestedTourAchieved s r stops rule p
  sound p can =
      let tour = sound_walk can.node can.goal can.reached.0 p can.reached.1 in
      record { in_time = in_time; steps = reads rule.rest base can.reached.0; walk = tour.walk; rested = tour.rested }

  -- a least walk over states to the goal tells the steps
  pub record IsLeastToGoal (steps : List TourStep) (p : Pair) : Type 0 where
    pub node : ℕ
    pub goal : (task_over s (tour_ruler stops rule) base r.origin.0 r.goal.0 r.depart r.until bound).goal node ≡ true
    pub zs : List Step
    pub walk : Walks (product s (tour_ruler stops rule) base) r.until (reverse zs) (point (code base r.origin.0 (joint 0 0)) r.depart 0)
        (point node p.arrival p.cost)
    pub traced : IsLeastBack s stops rule base r.until (tour_start r) (node / base) zs (tour_end r (length stops) p)
    pub told : reverse steps ≡ reads rule.rest base zs

  -- each rested tour is told by one
  pub least_to_goal : (steps : List TourStep) (p : Pair) → RestedWalk s r stops rule steps p → IsLeastToGoal steps p
  least_to_goal steps p tour =
      let least = least_walk s stops rule base r.until is_base no_road some few_services (tour_start r) steps (tour_end r (length stops) p) origin (omega arith)
      tour.rested tour.walk in
      let state : ℕ = joint least.r (length stops) in
      let whole : code base r.goal.0 state / base ≡ state = div-mul-add state base r.goal.0 least.led.small in
      record {
        node = code base r.goal.0 state;
        goal = and_from (eqb (code base r.goal.0 state % base) r.goal.0) (eqb (code base r.goal.0 state / base % served_limit) count && true)
            (eq-eqb (code base r.goal.0 state % base) r.goal.0 (mod-mul-add state base r.goal.0 least.led.small))
            (and_from (eqb (code base r.goal.0 state / base % served_limit) count) true
            (eq-eqb (code base r.goal.0 state / base % served_limit) count
            (ap (λ n. n % served_limit) whole ∙ joint_served least.r (length stops) few ∙ sym (length-map stops stop_service))) refl);
        zs = least.zs;
        walk = least.led.walk;
        traced = subst (λ n. IsLeastBack s stops rule base r.until (tour_start r) n least.zs (tour_end r (length stops) p)) (sym whole) least.led.traced;
        told = least.told;
      }

  found : (p : Pair) → IsRestedTourAchieved s r stops rule p
      → IsAchievedIn (task_over s (tour_ruler stops rule) base r.origin.0 r.goal.0 r.depart r.until bound) p
  found p can =
      let least = least_to_goal can.steps p (record { walk = can.walk; rested = can.rested }) in
      record { node = least.node; goal = least.goal; reached = (reverse least.zs, least.walk) }

  pub rested_front : (pairs : List Pair)
      → IsParetoFront IsNoWorse ArrivesBefore (IsAchievedIn (task_over s (tour_ruler stops rule) base r.origin.0 r.goal.0 r.depart r.until bound)) pairs
      → IsRestedTourFront s r stops rule pairs
  rested_front = same_front IsNoWorse ArrivesBefore (IsAchievedIn (task_over s (tour_ruler stops rule) base r.origin.0 r.goal.0 r.depart r.until bound))
      (IsRestedTourAchieved s r stops rule) sound found
