-- A walk over the states of rested tours that was found, the last step first, with the minutes since some break in each of its states.
use Rattle.std.proofs.Common.{◌≡◌, ℕ, ◌/◌, ◌≤◌, ◌<◌, Some, None, List, [], ◌∷◌, ◌++◌, length, map, sym, ◌∙◌, ap, subst}
use Rattle.std.specs.Prelude.{reverse}
use Rattle.std.proofs.lemmas.List.{map-append}
use Rattle.route_base.specs.Setting.{Setting}
use Rattle.route_base.specs.Itinerary.{Position, Step, Walks}
use Rattle.route_base.specs.Net.{at_number}
use Rattle.drive_states.specs.declared.rule.BreakRule.{BreakRule}
use Rattle.state_dominance.specs.Inside.Product.{IsBase, product}
use Rattle.state_dominance.specs.Serving.{served_limit}
use Rattle.stop_tour.specs.Tours.{TourPosition, TourStep, TourWalks}
use Rattle.stop_tour.specs.declared.stops.Stop.{Stop}
use Rattle.rested_tours.specs.Inside.TourRuler.{stop_service, tour_ruler}
use Rattle.rested_tours.specs.RestedTours.{seen}
use Rattle.rested_tours.proofs.Reading.{reads, reverse_onto}
use Rattle.rested_tours.proofs.ServingSteps.{tour_at}
use Rattle.rested_tours.proofs.Sound.{IsAt, same_place, stepped}
use Rattle.rested_tours.proofs.StateSteps.{IsFoundBack, seen_of}

module _ (s : Setting) (stops : List Stop) (rule : BreakRule) (base until : ℕ) (is_base : IsBase s (tour_ruler stops rule) base) (no_road : s.road 0 ≡ None)
    (long : (i : ℕ) (stop : Stop) → at_number stops i ≡ Some stop → 1 ≤ stop.service) (few : length (map stop_service stops) < served_limit)
    (start : TourPosition) where
  abbrev At : Position → TourPosition → List Step → Type 0
  At big p back = IsAt s stops rule base until is_base no_road long few big p back

  abbrev Back : ℕ → List Step → TourPosition → Type 0
  Back state zs p = IsFoundBack s stops rule base until start state zs p

  -- steps behind a walk that was found
  pub found_on : (xs zs : List Step) (big : Position) (p : TourPosition) (last : Position) → At big p (seen_of s stops rule base until start zs)
      → Back (big.node / base) zs p → Walks (product s (tour_ruler stops rule) base) until xs big last
      → Back (last.node / base) (reverse xs ++ zs) (tour_at base last)
  found_on [] zs big p last at back walk =
      subst (λ (w : Position). Back (w.node / base) zs (tour_at base w)) walk
      (subst (Back (big.node / base) zs)
      (same_place s stops rule base until is_base no_road long few big p (seen_of s stops rule base until start zs) at) back)
  found_on (x ∷ xs) zs big p last at back walk =
      let one = stepped s stops rule base until is_base no_road long few x big walk.0 p (seen_of s stops rule base until start zs) at walk.1 in
      let same : one.behind ≡ seen_of s stops rule base until start (x ∷ zs) =
      one.sees ∙ sym (map-append seen one.ys (reads rule.rest base zs))
      ∙ ap (λ (w : List TourStep). map seen (w ++ reads rule.rest base zs)) (sym one.is) in
      let to : At walk.0 one.q (seen_of s stops rule base until start (x ∷ zs)) = subst (At walk.0 one.q) same one.to in
      subst (λ (w : List Step). Back (last.node / base) w (tour_at base last)) (sym (reverse_onto x xs zs))
      (found_on xs (x ∷ zs) walk.0 one.q last to (
        record { served = sym to.served; minutes = to.since },
        tt,
        p,
        subst (λ (w : List TourStep). TourWalks s stops until w p one.q) (sym one.is) one.walk,
        subst (λ (n : ℕ). Back n zs p) one.before back,
      )
      walk.2)
