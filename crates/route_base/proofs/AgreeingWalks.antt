-- Lawful itineraries of a setting are lawful in one that agrees with it within the window.
use Rattle.std.proofs.Common.{◌≡◌, refl, ℕ, ◌≤◌, Some, List, [], ◌∷◌, All, sym, ◌∙◌, subst, arith}
use Rattle.std.specs.Prelude.{IsSome}
use Rattle.route_base.specs.Setting.{Setting}
use Rattle.route_base.specs.Itinerary.{Position, Step, drive, wait, Moves, Walks}
use Rattle.route_base.specs.Legs.{start_of, end_of, Achieves, HasNoNeighbouringWaits, CostsFit}
use Rattle.route_base.specs.Front.{IsAchieved, IsFront, IsRight}
use Rattle.route_base.specs.declared.types.Run.{Run}
use Rattle.route_base.specs.declared.types.Pair.{Pair}
use Rattle.route_base.specs.declared.types.Request.{Request}
use Rattle.route_base.specs.declared.types.Route.{Route}
use Rattle.route_base.specs.Matching.{StandsFor, IsInWindow}
use Rattle.route_base.proofs.Walking.{moves_forward}

pub flipped : (s z : Setting) (window : Run) → StandsFor s z window → StandsFor z s window
flipped s z window same = record {
  nodes = sym same.nodes;
  arcs = sym same.arcs;
  road = λ a. sym (same.road a);
  weight = λ v. sym (same.weight v);
  shut = λ a t is late early. sym (same.shut a t (subst IsSome (same.road a) is) late early);
  wait_shut = λ v t is late early. sym (same.wait_shut v t (subst IsSome (same.weight v) is) late early);
}

module _ (s z : Setting) (window : Run) (same : StandsFor s z window) (until : ℕ) (upto : until ≤ window.hi) where
  pub moves_too : (x : Step) (p q : Position) → window.lo ≤ p.minute → Moves s until x p q → Moves z until x p q
  moves_too (drive a) p q from move =
      let is : z.road a ≡ Some move.road = sym (same.road a) ∙ move.is in
      record {
        road = move.road;
        is = is;
        tail = move.tail;
        is_open = λ t late early.
            sym (same.shut a t (subst IsSome (sym is) refl) (omega (arith, from, late)) (omega (arith, early, move.in_time, upto)))
            ∙ move.is_open t late early;
        in_time = move.in_time;
        node = move.node;
        minute = move.minute;
        cost = move.cost;
      }
  moves_too wait p q from move =
      let rated : z.weight p.node ≡ Some move.weight = sym (same.weight p.node) ∙ move.rated in
      record {
        weight = move.weight;
        rated = rated;
        is_open = sym (same.wait_shut p.node p.minute (subst IsSome (sym rated) refl) from (omega (arith, move.in_time, upto))) ∙ move.is_open;
        in_time = move.in_time;
        node = move.node;
        minute = move.minute;
        cost = move.cost;
      }

  pub walks_too : (xs : List Step) (p q : Position) → window.lo ≤ p.minute → Walks s until xs p q → Walks z until xs p q
  walks_too [] p q from walk = walk
  walks_too (x ∷ xs) p q from walk = (
    walk.0,
    moves_too x p walk.0 from walk.1,
    walks_too xs walk.0 q (omega (arith, from, moves_forward s until x p walk.0 walk.1)) walk.2,
  )

module _ (s z : Setting) (window : Run) (r : Request) (same : StandsFor s z window) (within : IsInWindow r window) where
  pub achieved_too : (p : Pair) → IsAchieved s r p → IsAchieved z r p
  achieved_too p can = record {
    in_time = can.in_time;
    steps = can.steps;
    walk = walks_too s z window same r.until within.1 can.steps (start_of r) (end_of r p) within.0 can.walk;
  }

  pub fit_too : CostsFit z r → CostsFit s r
  fit_too fit steps p walk = fit steps p (walks_too s z window same r.until within.1 steps (start_of r) p within.0 walk)

  pub right_legs_too : (routes : List Route) → All (λ x. Achieves s r x.legs x.pair × HasNoNeighbouringWaits x.legs) routes
      → All (λ x. Achieves z r x.legs x.pair × HasNoNeighbouringWaits x.legs) routes
  right_legs_too routes all k d inside = (
    (let legs = (all k d inside).0 in record {
      in_time = legs.in_time;
      no_empty_wait = legs.no_empty_wait;
      walk = walks_too s z window same r.until within.1 _ (start_of r) (end_of r _) within.0 legs.walk;
    }),
    (all k d inside).1,
  )

module _ (s z : Setting) (window : Run) (r : Request) (same : StandsFor s z window) (within : IsInWindow r window) where
  back : StandsFor z s window
  back = flipped s z window same

  pub front_too : (pairs : List Pair) → IsFront s r pairs → IsFront z r pairs
  front_too pairs is = record {
    rising = is.rising;
    each = λ p. (
      (λ one. let here = (is.each p).0 one in
          (achieved_too s z window r same within p here.0, λ q can. here.1 q (achieved_too z s window r back within q can))),
      (λ best. (is.each p).1 (achieved_too z s window r back within p best.0, λ q can. best.1 q (achieved_too s z window r same within q can))),
    );
  }

  pub right_too : (routes : List Route) → IsRight s r routes → IsRight z r routes
  right_too routes right = record {
    front = front_too _ right.front;
    legs = right_legs_too s z window r same within routes right.legs;
    first = λ k d inside steps walk. right.first k d inside steps
        (walks_too z s window back r.until within.1 steps (start_of r) (end_of r _) within.0 walk);
  }
