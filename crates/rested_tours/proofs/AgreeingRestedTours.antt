-- Rested tours are the same over settings that agree.
use Rattle.std.proofs.Common.{◌≡◌, ◌⊎◌, ℕ, Option, List, get_or, map, sym, subst}
use Rattle.std.specs.Prelude.{All, reverse}
use Rattle.route_base.specs.Setting.{Setting, Road}
use Rattle.route_base.specs.Front.{IsNoWorse}
use Rattle.route_base.specs.Matching.{StandsFor, IsInWindow}
use Rattle.route_base.specs.declared.types.Pair.{Pair}
use Rattle.route_base.specs.declared.types.Request.{Request}
use Rattle.route_base.specs.declared.types.Run.{Run}
use Rattle.route_base.proofs.AgreeingWalks.{flipped}
use Rattle.front_transport.specs.ParetoFronts.{ArrivesBefore}
use Rattle.front_transport.proofs.SameFronts.{same_front}
use Rattle.drive_states.specs.declared.rule.BreakRule.{BreakRule}
use Rattle.rested_tours.specs.RestedTours.{AchievesRestedTour, AreRightRestedTours, ComesRestedTourBefore}
use Rattle.rested_tours.specs.RestedTours.{IsFirstRestedTour, IsRestedTour, IsRestedTourAchieved}
use Rattle.stop_tour.specs.Tours.{TourStep, tour_start, tour_steps_of}
use Rattle.stop_tour.specs.declared.stops.Stop.{Stop}
use Rattle.stop_tour.specs.declared.stops.TourRoute.{TourRoute}
use Rattle.stop_tour.proofs.AgreeingTours.{legs_too, tour_walks_too}

module _ (s z : Setting) (window : Run) (r : Request) (stops : List Stop) (rule : BreakRule) (same : StandsFor s z window)
    (within : IsInWindow r window) where
  rested_too : (steps : List TourStep) → IsRestedTour s.road rule steps → IsRestedTour z.road rule steps
  rested_too steps rested =
      let roads : s.road ≡ z.road = λ i a. same.road a i in
      subst (λ (roads : ℕ → Option Road). IsRestedTour roads rule steps) roads rested

  pub achieved_too : (p : Pair) → IsRestedTourAchieved s r stops rule p → IsRestedTourAchieved z r stops rule p
  achieved_too p can = record {
    in_time = can.in_time;
    steps = can.steps;
    walk = tour_walks_too s z window same stops r.until within.1 can.steps (tour_start r) _ within.0 can.walk;
    rested = rested_too can.steps can.rested;
  }

  pub rested_legs_too : (routes : List TourRoute) → All (AchievesRestedTour s r stops rule) routes → All (AchievesRestedTour z r stops rule) routes
  rested_legs_too routes all k d inside = record {
    achieves = legs_too s z window r stops same within routes (λ m e b. (all m e b).achieves) k d inside;
    rested = rested_too (tour_steps_of (get_or routes k d).legs) (all k d inside).rested;
  }

  -- the first legs there are the first here
  pub rested_first_too : (routes : List TourRoute) → All (IsFirstRestedTour z r stops rule) routes → All (IsFirstRestedTour s r stops rule) routes
  rested_first_too routes all k d inside steps walk rested =
      let roads : z.road ≡ s.road = λ i a. sym (same.road a) i in
      let legs = tour_steps_of (get_or routes k d).legs in
      subst (λ (w : ℕ → Option Road). (steps ≡ legs) ⊎ ComesRestedTourBefore w rule.rest (reverse legs) (reverse steps)) roads
      (all k d inside steps (tour_walks_too s z window same stops r.until within.1 steps (tour_start r) _ within.0 walk) (rested_too steps rested))

module _ (s z : Setting) (window : Run) (r : Request) (stops : List Stop) (rule : BreakRule) (same : StandsFor s z window)
    (within : IsInWindow r window) where
  pub right_too : (routes : List TourRoute) → AreRightRestedTours s r stops rule routes → AreRightRestedTours z r stops rule routes
  right_too routes right = record {
    front = same_front IsNoWorse ArrivesBefore (IsRestedTourAchieved s r stops rule) (IsRestedTourAchieved z r stops rule)
        (achieved_too s z window r stops rule same within) (achieved_too z s window r stops rule (flipped s z window same) within)
        (map (λ x. x.pair) routes) right.front;
    legs = rested_legs_too s z window r stops rule same within routes right.legs;
    first = rested_first_too z s window r stops rule (flipped s z window same) within routes right.first;
  }
