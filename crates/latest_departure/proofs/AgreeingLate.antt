-- Late itineraries of a setting are late itineraries of one that agrees with it within the window.
use Rattle.std.proofs.Common.{ℕ, ◌≤◌, List, map, arith}
use Rattle.route_base.specs.Legs.{start_of, end_of}
use Rattle.route_base.specs.Matching.{StandsFor, IsInWindow}
use Rattle.route_base.specs.Setting.{Setting}
use Rattle.route_base.specs.declared.types.Request.{Request}
use Rattle.route_base.specs.declared.types.Run.{Run}
use Rattle.route_base.proofs.AgreeingWalks.{achieved_too, flipped, walks_too}
use Rattle.latest_departure.specs.LateFront.{LatePair, request_from, pair_at, IsLateAchieved, IsLateFront, AchievesLate, AreRightLate, late_pair_of}
use Rattle.latest_departure.specs.declared.routes.LateRoute.{LateRoute}

module _ (s z : Setting) (window : Run) (r : Request) (same : StandsFor s z window) (within : IsInWindow r window) where
  within_from : (departure : ℕ) → r.depart ≤ departure → IsInWindow (request_from r departure) window
  within_from departure from = (omega (arith, within.0, from), within.1)

  late_achieved_too : (p : LatePair) → IsLateAchieved s r p → IsLateAchieved z r p
  late_achieved_too p can = record {
    from = can.from;
    arrival = can.arrival;
    achieved = achieved_too s z window (request_from r p.departure) same (within_from p.departure can.from) (pair_at can.arrival p.cost) can.achieved;
  }

  achieves_late_too : (route : LateRoute) → AchievesLate s r route → AchievesLate z r route
  achieves_late_too route is = record {
    from = is.from;
    arrival = is.arrival;
    achieves = record {
      in_time = is.achieves.in_time;
      no_empty_wait = is.achieves.no_empty_wait;
      walk = walks_too s z window same r.until within.1 _ (start_of (request_from r route.departure)) (end_of (request_from r route.departure) _)
          (omega (arith, within.0, is.from)) is.achieves.walk;
    };
    apart = is.apart;
  }

module _ (s z : Setting) (window : Run) (r : Request) (same : StandsFor s z window) (within : IsInWindow r window) where
  there : (p : LatePair) → IsLateAchieved s r p → IsLateAchieved z r p
  there = late_achieved_too s z window r same within

  back : (p : LatePair) → IsLateAchieved z r p → IsLateAchieved s r p
  back = late_achieved_too z s window r (flipped s z window same) within

  late_front_too : (pairs : List LatePair) → IsLateFront s r pairs → IsLateFront z r pairs
  late_front_too pairs is = record {
    ordered = is.ordered;
    each = λ p. (
      (λ one. let here = (is.each p).0 one in (there p here.0, λ q can. here.1 q (back q can))),
      (λ best. (is.each p).1 (back p best.0, λ q can. best.1 q (there q can))),
    );
  }

  pub right_late_too : (routes : List LateRoute) → AreRightLate s r routes → AreRightLate z r routes
  right_late_too routes right = record {
    front = late_front_too (map late_pair_of routes) right.front;
    legs = λ k d inside. achieves_late_too s z window r same within _ (right.legs k d inside);
    first = λ k d inside steps arrival walk. right.first k d inside steps arrival
        (walks_too z s window (flipped s z window same) r.until within.1 steps _ _ (omega (arith, within.0, (right.legs k d inside).from)) walk);
  }
