-- Routes over states are the break front of the net.
use Rattle.std.proofs.Common.{◌≡◌, ◌-◌, ◌≤◌, List, [], length, get_or, All, sym, subst, arith}
use Rattle.std.proofs.lemmas.List.Elements.{All-weaker}
use Rattle.route_base.specs.Setting.{Setting}
use Rattle.route_base.specs.Legs.{start_of, end_of, steps_of, CostsFit}
use Rattle.route_base.specs.Front.{IsRight, pairs_of}
use Rattle.route_base.specs.Net.{Net, setting_of, IsGoodNet, IsGoodRequest}
use Rattle.route_base.specs.declared.limits.TheConstants.{DAY_MINUTES, LONGEST_HORIZON}
use Rattle.route_base.specs.declared.types.Leg.{Leg}
use Rattle.route_base.specs.declared.types.Request.{Request}
use Rattle.route_base.specs.declared.types.Route.{Route}
use Rattle.route_base.specs.declared.types.TimedArc.{TimedArc}
use Rattle.route_base.proofs.Arcs.{takes_time}
use Rattle.route_base.proofs.Walking.{walk_in_time}
use Rattle.route_base.proofs.Costs.{fits}
use Rattle.front_transport.specs.CheapArcs.{HasCheapArcs}
use Rattle.drive_breaks.specs.Rested.{AreRightRested, IsRestedFront}
use Rattle.drive_breaks.specs.Inside.StateNet.{AreBuilt, IsStateNet, net_over}
use Rattle.drive_breaks.specs.Inside.Unpacking.{unpacked, IsSourcedRoute, AreUnpacked, IsUnpackable}
use Rattle.drive_states.specs.Inside.StateSearch.{IsExplored}
use Rattle.drive_states.specs.declared.rule.BreakRule.{BreakRule}
use Rattle.drive_states.specs.declared.rule.State.{State}
use Rattle.drive_states.specs.declared.rule.Way.{Way}
use Rattle.drive_breaks.proofs.BreakFronts.{over_states, unpacks, break_front}
use Rattle.drive_breaks.proofs.GoodStates.{cheap_over}
use Rattle.drive_breaks.proofs.LastBreak.{rested_from}
use Rattle.drive_breaks.proofs.OverStates.{is_state_net}
use Rattle.drive_breaks.proofs.Unpacked.{long_walk, sourced, rested_routes}

module _ (net : Net) (good : IsGoodNet net) where
  module _ (r : Request) (asked : IsGoodRequest net r) (rule : BreakRule) (states : List State) (ways : List Way)
      (explored : IsExplored (setting_of net) r.origin.0 rule states ways) where
    module _ (arcs : List TimedArc) (sources : List Leg) (built : AreBuilt net states r.goal.0 ways arcs sources)
        (low : 1 ≤ rule.rest) (high : rule.rest ≤ DAY_MINUTES) where
      z : Setting
      z = setting_of (net_over net states arcs)

      made : IsStateNet (setting_of net) z rule r.origin.0 r.goal.0 states sources
      unfolding z
      made = is_state_net net good rule r.origin.0 r.goal.0 states ways arcs sources explored built

      pub fits_over : HasCheapArcs net → r.depart ≤ r.until → r.until - r.depart ≤ LONGEST_HORIZON
          → CostsFit (setting_of (net_over net states arcs)) (over_states r (length states))
      fits_over cheap in_order short = fits (setting_of (net_over net states arcs)) (over_states r (length states))
          (cheap_over net good rule r.origin.0 r.goal.0 states ways arcs sources explored built low high cheap) in_order (omega (arith, in_order, short))

      unpackable : (routes : List Route) → IsRight (setting_of (net_over net states arcs)) (over_states r (length states)) routes
          → All (IsUnpackable (setting_of net) r rule sources) routes
      unfolding z
      unpackable routes right k d within =
          let route : Route = get_or routes k d in
          let legs = (right.legs k d within).0 in
          let on = unpacks (setting_of net) z rule r states sources made low (steps_of route.legs) route.pair legs.walk in
          let long = long_walk (setting_of net) r.until (takes_time net good) (unpacked sources (steps_of route.legs)) (start_of r)
          (end_of r route.pair) on.walk in
          let late = walk_in_time (setting_of net) r.until (unpacked sources (steps_of route.legs)) (start_of r) (end_of r route.pair) legs.in_time on.walk in
          record {
            sourced = record {
              each = sourced (setting_of net) z rule r.origin.0 r.goal.0 states sources made low r.until route.legs
                  (start_of (over_states r (length states))) (end_of (over_states r (length states)) route.pair) legs.no_empty_wait legs.walk;
              short = omega (arith, long, late, asked.until);
            };
            in_time = legs.in_time;
            walk = on.walk;
            rested = rested_from (setting_of net).road rule low (unpacked sources (steps_of route.legs)) [] on.rested;
          }

      pub sourced_routes : (routes : List Route) → IsRight (setting_of (net_over net states arcs)) (over_states r (length states)) routes
          → All (IsSourcedRoute sources) routes
      sourced_routes routes right = All-weaker (IsUnpackable (setting_of net) r rule sources) (IsSourcedRoute sources) (λ route here. here.sourced)
          routes (unpackable routes right)

      pub right_breaks : (r.origin.0 ≡ r.goal.0 → ⊥) → (routes out : List Route)
          → IsRight (setting_of (net_over net states arcs)) (over_states r (length states)) routes → AreUnpacked sources routes out
          → AreRightRested (setting_of net) r rule out
      unfolding z
      right_breaks away routes out right are =
          let both = rested_routes (setting_of net) r rule sources routes out (unpackable routes right) are in
          record {
            front = subst (IsRestedFront (setting_of net) r rule) (sym both.0)
                (break_front (setting_of net) z rule r states sources made low away (pairs_of routes) right.front);
            legs = both.1;
          }
