-- Tours without stops are itineraries.
use Rattle.std.proofs.Common.{◌↔◌, ℕ, List, [], ◌∷◌, refl, ap}
use Rattle.route_base.specs.Setting.{Setting}
use Rattle.route_base.specs.Itinerary.{Position, Step, Walks}
use Rattle.route_base.specs.Front.{IsAchieved, IsFront, IsNoWorse}
use Rattle.route_base.specs.Legs.{start_of, end_of}
use Rattle.route_base.specs.declared.types.Pair.{Pair}
use Rattle.route_base.specs.declared.types.Request.{Request}
use Rattle.route_base.proofs.Numbered.{no_number}
use Rattle.front_transport.specs.ParetoFronts.{ArrivesBefore}
use Rattle.front_transport.proofs.SameFronts.{same_front}
use Rattle.stop_tour.specs.Tours.{go, serve, IsTourAchieved, IsTourFront, TourPosition, TourStep, TourWalks, tour_end, tour_start}

-- the same steps, as those of a tour
going : List Step → List TourStep
going [] = []
going (x ∷ xs) = go x ∷ going xs

-- a position before the first stop
abbrev unserved : Position → TourPosition
unserved p = record { at = p; served = 0 }

module _ (s : Setting) (until : ℕ) where
  goes : (xs : List Step) (p q : Position) → Walks s until xs p q → TourWalks s [] until (going xs) (unserved p) (unserved q)
  unfolding going
  goes [] p q walk = ap unserved walk
  goes (x ∷ xs) p q walk = (unserved walk.0, (walk.1, refl), goes xs walk.0 q walk.2)

  went : (xs : List TourStep) (p q : TourPosition) → TourWalks s [] until xs p q → (ys : List Step) × Walks s until ys p.at q.at
  went [] p q walk = ([], ap (λ (w : TourPosition). w.at) walk)
  went (go x ∷ xs) p q walk = let rest = went xs walk.0 q walk.2 in (x ∷ rest.0, (walk.0.at, walk.1.0, rest.1))
  went (serve i ∷ xs) p q walk = absurd (no_number i walk.1.stop walk.1.is)

module _ (s : Setting) (r : Request) where
  as_tour : (p : Pair) → IsAchieved s r p → IsTourAchieved s r [] p
  as_tour p can = record {
    in_time = can.in_time;
    steps = going can.steps;
    walk = goes s r.until can.steps (start_of r) (end_of r p) can.walk;
  }

  as_trip : (p : Pair) → IsTourAchieved s r [] p → IsAchieved s r p
  as_trip p can =
      let walk = went s r.until can.steps (tour_start r) (tour_end r 0 p) can.walk in
      record { in_time = can.in_time; steps = walk.0; walk = walk.1 }

  -- the fronts of both are one
  pub no_stops : (pairs : List Pair) → IsTourFront s r [] pairs ↔ IsFront s r pairs
  no_stops pairs = (
    (λ front. let one = same_front IsNoWorse ArrivesBefore (IsTourAchieved s r []) (IsAchieved s r) as_trip as_tour pairs front in
        record { rising = one.ordered; each = one.each }),
    (λ front. same_front IsNoWorse ArrivesBefore (IsAchieved s r) (IsTourAchieved s r []) as_tour as_trip pairs
        (record { ordered = front.rising; each = front.each })),
  )
