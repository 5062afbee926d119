-- Tours are the same over settings that agree.
use Rattle.std.proofs.Common.{ℕ, ◌≤◌, List, [], ◌∷◌, get_or, map, arith}
use Rattle.std.specs.Prelude.{All}
use Rattle.route_base.specs.Setting.{Setting}
use Rattle.route_base.specs.Front.{IsNoWorse}
use Rattle.route_base.specs.Matching.{StandsFor, IsInWindow}
use Rattle.route_base.specs.declared.types.Pair.{Pair}
use Rattle.route_base.specs.declared.types.Request.{Request}
use Rattle.route_base.specs.declared.types.Run.{Run}
use Rattle.route_base.proofs.AgreeingWalks.{flipped, moves_too}
use Rattle.route_base.proofs.Walking.{moves_forward}
use Rattle.front_transport.specs.ParetoFronts.{ArrivesBefore}
use Rattle.front_transport.proofs.SameFronts.{same_front}
use Rattle.stop_tour.specs.Tours.{go, serve, AchievesTour, AreRightTours, IsTourAchieved, TourMoves, TourPosition}
use Rattle.stop_tour.specs.Tours.{TourStep, TourWalks, tour_start, tour_steps_of}
use Rattle.stop_tour.specs.declared.stops.Stop.{Stop}
use Rattle.stop_tour.specs.declared.stops.TourRoute.{TourRoute}

-- no step of a tour goes back in time
tour_forward : (s : Setting) (stops : List Stop) (until : ℕ) (x : TourStep) (p q : TourPosition) → TourMoves s stops until x p q
    → p.at.minute ≤ q.at.minute
tour_forward s stops until (go x) p q move = moves_forward s until x p.at q.at move.0
tour_forward s stops until (serve i) p q move = omega (arith, move.minute)

module _ (s z : Setting) (window : Run) (same : StandsFor s z window) (stops : List Stop) (until : ℕ) (upto : until ≤ window.hi) where
  tour_moves_too : (x : TourStep) (p q : TourPosition) → window.lo ≤ p.at.minute → TourMoves s stops until x p q → TourMoves z stops until x p q
  tour_moves_too (go x) p q from move = (moves_too s z window same until upto x p.at q.at from move.0, move.1)
  tour_moves_too (serve i) p q from move = move

  pub tour_walks_too : (xs : List TourStep) (p q : TourPosition) → window.lo ≤ p.at.minute → TourWalks s stops until xs p q → TourWalks z stops until xs p q
  tour_walks_too [] p q from walk = walk
  tour_walks_too (x ∷ xs) p q from walk = (
    walk.0,
    tour_moves_too x p walk.0 from walk.1,
    tour_walks_too xs walk.0 q (omega (arith, from, tour_forward s stops until x p walk.0 walk.1)) walk.2,
  )

module _ (s z : Setting) (window : Run) (r : Request) (stops : List Stop) (same : StandsFor s z window) (within : IsInWindow r window) where
  pub achieved_too : (p : Pair) → IsTourAchieved s r stops p → IsTourAchieved z r stops p
  achieved_too p can = record {
    in_time = can.in_time;
    steps = can.steps;
    walk = tour_walks_too s z window same stops r.until within.1 can.steps (tour_start r) _ within.0 can.walk;
  }

  pub legs_too : (routes : List TourRoute) → All (AchievesTour s r stops) routes → All (AchievesTour z r stops) routes
  legs_too routes all k d inside = let legs = all k d inside in record {
    in_time = legs.in_time;
    no_empty_wait = legs.no_empty_wait;
    walk = tour_walks_too s z window same stops r.until within.1 (tour_steps_of (get_or routes k d).legs) (tour_start r) _ within.0 legs.walk;
    apart = legs.apart;
  }

module _ (s z : Setting) (window : Run) (r : Request) (stops : List Stop) (same : StandsFor s z window) (within : IsInWindow r window) where
  pub right_too : (routes : List TourRoute) → AreRightTours s r stops routes → AreRightTours z r stops routes
  right_too routes right = record {
    front = same_front IsNoWorse ArrivesBefore (IsTourAchieved s r stops) (IsTourAchieved z r stops) (achieved_too s z window r stops same within)
        (achieved_too z s window r stops (flipped s z window same) within) (map (λ x. x.pair) routes) right.front;
    legs = legs_too s z window r stops same within routes right.legs;
    first = λ k d inside steps walk. right.first k d inside steps
        (tour_walks_too z s window (flipped s z window same) stops r.until within.1 steps (tour_start r) _ within.0 walk);
  }
