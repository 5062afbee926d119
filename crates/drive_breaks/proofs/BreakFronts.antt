-- The front of the net over states is the break front.
use Rattle.std.proofs.Common.{◌≡◌, ⊎_elim, ℕ, zero, suc, ◌+◌, ◌≤◌, List, [], ◌∷◌, length, refl, sym, ap, subst, arith}
use Rattle.std.specs.Prelude.{Contains, ◌≢◌}
use Rattle.std.proofs.lemmas.List.{map-id}
use Rattle.route_base.proofs.Fronts.{same_pair}
use Rattle.route_base.specs.Setting.{Setting}
use Rattle.route_base.specs.Itinerary.{Position, Step, Walks}
use Rattle.route_base.specs.Legs.{start_of, end_of}
use Rattle.route_base.specs.Front.{IsFront, IsAchieved, IsNoWorse}
use Rattle.route_base.specs.declared.types.Leg.{Leg}
use Rattle.route_base.specs.declared.types.Pair.{Pair}
use Rattle.route_base.specs.declared.types.Request.{Request}
use Rattle.route_base.proofs.Waiting.{same_position}
use Rattle.route_base.proofs.Walking.{walk_grows}
use Rattle.front_transport.specs.ParetoFronts.{ArrivesBefore}
use Rattle.front_transport.proofs.PairOrder.{no_worse_order}
use Rattle.front_transport.proofs.Transport.{carried}
use Rattle.drive_breaks.specs.Rested.{IsRestedAchieved, IsRestedFront, AchievesRested, AreRightRested}
use Rattle.route_base.specs.declared.types.Route.{Route}
use Rattle.std.proofs.lemmas.List.Elements.{All-push, All-nil}
use Rattle.drive_breaks.specs.Inside.StateNet.{IsStateNet}
use Rattle.drive_breaks.specs.Inside.Unpacking.{unpacked, stay_at}
use Rattle.drive_states.specs.declared.rule.BreakRule.{BreakRule}
use Rattle.drive_states.specs.declared.rule.State.{State}
use Rattle.drive_breaks.proofs.FoundBreaks.{arrives}
use Rattle.drive_breaks.proofs.LastBreak.{rested_from, within_from}
use Rattle.drive_breaks.proofs.SoundBreaks.{GoesOn, from_start}

-- from the first state to the node behind all states
abbrev pub over_states : Request → ℕ → Request
over_states r count = record { origin = record { 0 = 1 }; goal = record { 0 = count + 1 }; depart = r.depart; until = r.until }

module _ (s z : Setting) (rule : BreakRule) (r : Request) (states : List State) (sources : List Leg)
    (made : IsStateNet s z rule r.origin.0 r.goal.0 states sources) (some : 1 ≤ rule.rest) where
  big : Request
  big = over_states r (length states)

  -- legs over states, unpacked, are lawful, keep the rule and have the pair
  pub unpacks : (steps : List Step) (p : Pair) → Walks z r.until steps (start_of (over_states r (length states))) (end_of (over_states r (length states)) p)
      → GoesOn s z rule r.origin.0 r.goal.0 states sources made r.until steps (end_of (over_states r (length states)) p) (start_of r) []
  unpacks steps p walk = from_start s z rule r.origin.0 r.goal.0 states sources made r.until (end_of (over_states r (length states)) p) refl r.depart steps walk

  sound : (p : Pair) → IsAchieved z (over_states r (length states)) p → IsRestedAchieved s r rule p
  sound p can =
      let on = unpacks can.steps p can.walk in
      record {
        in_time = can.in_time;
        steps = unpacked sources can.steps;
        walk = on.walk;
        rested = rested_from s.road rule some
            (unpacked sources can.steps) [] on.rested;
      }

  covers : (r.origin.0 ≡ r.goal.0 → ⊥) → (p : Pair) → IsRestedAchieved s r rule p → (q : Pair) × IsAchieved z (over_states r (length states)) q × IsNoWorse q p
  covers away p can =
      let way = arrives s z rule r.origin.0 r.goal.0 states sources made some r.until (start_of (over_states r (length states))) can.steps (start_of r)
      (end_of r p)
      refl refl refl refl can.in_time away can.walk (within_from s.road rule some can.steps [] can.rested) refl in (
        record { arrival = way.end.minute; cost = way.end.cost },
        record {
          in_time = can.in_time;
          steps = way.steps;
          walk = subst (λ (w : Position). Walks z r.until way.steps (start_of (over_states r (length states))) w)
              (same_position way.end _ way.at refl refl) way.walk;
        },
        (way.minute, way.cost),
      )

  pub break_front : (r.origin.0 ≡ r.goal.0 → ⊥) → (pairs : List Pair) → IsFront z (over_states r (length states)) pairs → IsRestedFront s r rule pairs
  break_front away pairs front =
      subst (IsRestedFront s r rule) (map-id pairs)
      (carried IsNoWorse ArrivesBefore (IsAchieved z (over_states r (length states))) IsNoWorse ArrivesBefore (IsRestedAchieved s r rule) (λ p. p)
      no_worse_order no_worse_order
      (record { sound = sound; covers = covers away; keeps = λ a c can_a can_c le. le; tells = λ a c can_a can_c le. le; before = λ a c can_a can_c lt. lt })
      pairs (record { ordered = front.rising; each = front.each }))

only_one : (x p : Pair) → Contains (x ∷ []) p → x ≡ p
only_one x p (zero, within, is) = is
only_one x p (suc i, within, is) = absurd (omega (arith, within))

-- where the origin is the goal, the one pair is to stay
pub stays : (s : Setting) (r : Request) (rule : BreakRule) → r.depart ≤ r.until → r.origin.0 ≡ r.goal.0
    → IsRestedFront s r rule (record { arrival = r.depart; cost = 0 } ∷ [])
stays s r rule in_order same = record {
  ordered = λ i j d before within. absurd (omega (arith, before, within));
  each = λ p. (
    (λ one. let is = only_one (record { arrival = r.depart; cost = 0 }) p one in (
      subst (IsRestedAchieved s r rule) is itself,
      λ q can worse. worse.1 (same_pair q p
          (omega (arith, worse.0.0, (walk_grows s r.until can.steps (start_of r) (end_of r q) can.walk).0, ap (λ (w : Pair). w.arrival) is))
          (omega (arith, worse.0.1, ap (λ (w : Pair). w.cost) is))),
    )),
    (λ best. ⊎_elim
        (λ (is : record { arrival = r.depart; cost = 0 } ≡ p). (0, omega arith, is))
        (λ (other : record { arrival = r.depart; cost = 0 } ≢ p). absurd (best.1 (record { arrival = r.depart; cost = 0 }) itself
        (((walk_grows s r.until best.0.steps (start_of r) (end_of r p) best.0.walk).0, omega arith), other)))
        (no_worse_order.same (record { arrival = r.depart; cost = 0 }) p)),
  );
}
  where
    itself : IsRestedAchieved s r rule (record { arrival = r.depart; cost = 0 })
    itself = record { in_time = in_order; steps = []; walk = same_position _ _ same refl refl; rested = tt }

-- the one route of a trip to its origin is right
pub right_stay : (s : Setting) (r : Request) (rule : BreakRule) (routes : List Route) → r.depart ≤ r.until → r.origin.0 ≡ r.goal.0
    → routes ≡ stay_at r.depart → AreRightRested s r rule routes
right_stay s r rule routes in_order same is = subst (AreRightRested s r rule) (sym is) (record {
  front = stays s r rule in_order same;
  legs = All-push (AchievesRested s r rule) [] (record { pair = record { arrival = r.depart; cost = 0 }; legs = [] }) (All-nil (AchievesRested s r rule))
      (record {
        achieves = record { in_time = in_order; no_empty_wait = tt; walk = same_position _ _ same refl refl };
        rested = tt;
        apart = tt;
      });
})
