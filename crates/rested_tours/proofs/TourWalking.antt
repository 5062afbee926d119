-- Walks of tours, and what the break rule sees of them.
use Rattle.std.proofs.Common.{◌≡◌, ℕ, ◌+◌, ◌≤◌, ◌<◌, Some, List, [], ◌∷◌, ◌++◌, length, map, refl, sym, ◌∙◌, ap, subst, arith}
use Rattle.std.proofs.lemmas.List.{map-append}
use Rattle.route_base.specs.Setting.{Setting}
use Rattle.route_base.specs.Itinerary.{Position, Step, Walks}
use Rattle.route_base.specs.Net.{at_number}
use Rattle.route_base.proofs.Arcs.{TakesTime}
use Rattle.route_base.proofs.Walking.{moves_later, move_in_time}
use Rattle.stop_tour.specs.Tours.{TourPosition, TourStep, go, serve, TourMoves, TourWalks}
use Rattle.stop_tour.specs.declared.stops.Stop.{Stop}
use Rattle.rested_tours.specs.RestedTours.{seen}

-- a position of a tour
abbrev pub spot : Position → ℕ → TourPosition
spot p j = record { at = p; served = j }

pub same_spot : (p q : TourPosition) → p.at ≡ q.at → p.served ≡ q.served → p ≡ q
same_spot p q at served = ap (λ (w : Position). spot w p.served) at ∙ ap (λ (w : ℕ). spot q.at w) served

module _ (s : Setting) (stops : List Stop) (until : ℕ) where
  -- steps that are no services
  pub goes : (xs : List Step) (p q : Position) (j : ℕ) → Walks s until xs p q → TourWalks s stops until (map go xs) (spot p j) (spot q j)
  goes [] p q j walk = ap (λ (w : Position). spot w j) walk
  goes (x ∷ xs) p q j walk = (spot walk.0 j, (walk.1, refl), goes xs walk.0 q j walk.2)

  -- one walk after another
  pub tour_append : (xs ys : List TourStep) (p q r : TourPosition) → TourWalks s stops until xs p q → TourWalks s stops until ys q r
      → TourWalks s stops until (xs ++ ys) p r
  tour_append [] ys p q r walk more = subst (λ (w : TourPosition). TourWalks s stops until ys w r) (sym walk) more
  tour_append (y ∷ xs) ys p q r walk more = (walk.0, walk.1, tour_append xs ys walk.0 q r walk.2 more)

  -- a walk of two parts goes by a position between them
  pub tour_parts : (xs ys : List TourStep) (p r : TourPosition) → TourWalks s stops until (xs ++ ys) p r
      → (q : TourPosition) × TourWalks s stops until xs p q × TourWalks s stops until ys q r
  tour_parts [] ys p r walk = (p, refl, walk)
  tour_parts (x ∷ xs) ys p r walk = let more = tour_parts xs ys walk.0 r walk.2 in (more.0, (walk.0, walk.1, more.1), more.2)

module _ (s : Setting) (stops : List Stop) (until : ℕ) (takes : TakesTime s)
    (long_stops : (i : ℕ) (stop : Stop) → at_number stops i ≡ Some stop → 1 ≤ stop.service) where
  -- each step of a tour takes time, and ends by the last minute
  step_later : (x : TourStep) (p q : TourPosition) → TourMoves s stops until x p q → (p.at.minute < q.at.minute) × (q.at.minute ≤ until)
  step_later (go x) p q move = (moves_later s until takes x p.at q.at move.0, move_in_time s until x p.at q.at move.0)
  step_later (serve i) p q move = (omega (arith, move.minute, long_stops i move.stop move.is), omega (arith, move.minute, move.in_time))

  -- a tour has no more steps than minutes
  pub tour_later : (xs : List TourStep) (p q : TourPosition) → TourWalks s stops until xs p q → length xs + p.at.minute ≤ q.at.minute
  tour_later [] p q walk = omega (arith, ap (λ (w : TourPosition). w.at.minute) walk)
  tour_later (x ∷ xs) p q walk = omega (arith, (step_later x p walk.0 walk.1).0, tour_later xs walk.0 q walk.2)

  -- and ends by the last minute
  pub short_tour : (xs : List TourStep) (p q : TourPosition) → p.at.minute ≤ until → TourWalks s stops until xs p q → length xs + p.at.minute ≤ until
  short_tour [] p q in_time walk = omega (arith, in_time)
  short_tour (x ∷ xs) p q in_time walk =
      let one = step_later x p walk.0 walk.1 in
      omega (arith, one.0, short_tour xs walk.0 q one.1 walk.2)

-- what the rule sees of steps that are no services
pub seen_goes : (xs : List Step) → map seen (map go xs) ≡ xs
seen_goes [] = refl
seen_goes (x ∷ xs) = ap (λ (w : List Step). x ∷ w) (seen_goes xs)

pub seen_behind : (xs : List Step) (zs : List TourStep) → map seen (map go xs ++ zs) ≡ xs ++ map seen zs
seen_behind xs zs = map-append seen (map go xs) zs ∙ ap (λ (w : List Step). w ++ map seen zs) (seen_goes xs)
