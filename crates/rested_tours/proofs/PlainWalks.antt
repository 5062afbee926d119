-- The walks over the states of tours without a break rule are the tours, step for step.
use Rattle.std.proofs.Common.{◌≡◌, ◌⊎◌, inl, inr, ⊎_elim, ℕ, zero, suc, ◌+◌, ◌*◌, ◌/◌, ◌%◌, ◌≤◌, ◌<◌, Some, None, List, [], ◌∷◌, ◌++◌, length, map, refl, sym, ◌∙◌, ap, subst, arith}
use Rattle.std.specs.Prelude.{⊤, reverse}
use Rattle.std.proofs.lemmas.Nat.{div-mul-add, mod-mul-add, div-add-mod'}
use Rattle.std.proofs.lemmas.Option.{same_Some, slice_get_within}
use Rattle.route_base.specs.Setting.{Setting}
use Rattle.route_base.specs.Itinerary.{Position, Step, drive, wait, Moves, Walks}
use Rattle.route_base.specs.Net.{at_number}
use Rattle.ruled_search.specs.Routes.{state_before}
use Rattle.state_dominance.specs.Inside.Product.{IsBase, product, road_code}
use Rattle.state_dominance.specs.NoRule.{no_rule}
use Rattle.state_dominance.specs.Serving.{joint, served_limit}
use Rattle.state_dominance.proofs.Roads.{IsDriveRoad, IsRestRoad, IsServiceRoad, road_kinds}
use Rattle.stop_tour.specs.Tours.{TourPosition, TourStep, go, serve, TourMoves, TourWalks}
use Rattle.stop_tour.specs.declared.stops.Stop.{Stop}
use Rattle.rested_tours.specs.Inside.PlainTours.{plain_ruler}
use Rattle.rested_tours.specs.Inside.TourRuler.{stop_service}
use Rattle.rested_tours.proofs.Reading.{reverse_onto}
use Rattle.rested_tours.proofs.ServingSteps.{over, tour_at, TellsDrive, TellsService, tells_drive, tells_wait, tells_service, drives_over, waits_over, next_service, serves_over}

-- the step of a tour that a road of this kind tells, over this arc or service; there are no rests
abbrev pub tell_road : ℕ → ℕ → TourStep
tell_road zero a = go (drive a)
tell_road (suc zero) a = go wait
tell_road (suc (suc n)) a = serve (suc a)

-- the step of a tour that a step over states tells
abbrev pub tell : ℕ → Step → TourStep
tell base (drive x) = tell_road (x % 3) (x / 3 % base)
tell base wait = go wait

-- a step that leads to a state is no rest; a drive leads there from the same state, and a service from that of its place
abbrev pub IsPlainStep : ℕ → Step → ℕ → Type 0
IsPlainStep base wait k = ⊤
IsPlainStep base (drive x) k = ((x % 3 ≡ 0) × (x / 3 / base / base ≡ k)) ⊎ ((x % 3 ≡ 2) × (x / 3 / base / base ≡ x / 3 % base))

-- steps that lead to a state, the last first, are of this kind
abbrev pub ArePlainSteps : ℕ → ℕ → List Step → Type 0
ArePlainSteps base k [] = ⊤
ArePlainSteps base k (x ∷ xs) = IsPlainStep base x k × ArePlainSteps base (state_before base x k) xs

tell_code : (base kind a v k : ℕ) → kind < 3 → a < base → tell base (drive (road_code base kind a v k)) ≡ tell_road kind a
tell_code base kind a v k small arc =
    ap (λ n. tell_road n (road_code base kind a v k / 3 % base)) (mod-mul-add ((k * base + v) * base + a) 3 kind small)
    ∙ ap (λ n. tell_road kind n) (ap (λ n. n % base) (div-mul-add ((k * base + v) * base + a) 3 kind small) ∙ mod-mul-add (k * base + v) base a arc)

module _ (s : Setting) (stops : List Stop) (base until : ℕ) (is_base : IsBase s (plain_ruler stops) base)
    (long : (i : ℕ) (stop : Stop) → at_number stops i ≡ Some stop → 1 ≤ stop.service) (few : length (map stop_service stops) < served_limit) where
  -- a step over states from where the rules have no minutes tells one of the tour, and the rules have none behind it
  record TellsStep (x : Step) (big next : Position) : Type 0 where
    pub move : TourMoves s stops until (tell base x) (tour_at base big) (tour_at base next)
    pub none : next.node / base / served_limit ≡ 0
    pub step : IsPlainStep base x (next.node / base)
    pub before : state_before base x (next.node / base) ≡ big.node / base

  tells_step : (x : Step) (big next : Position) → big.node / base / served_limit ≡ 0 → Moves (product s (plain_ruler stops) base) until x big next
      → TellsStep x big next
  tells_step wait big next none move = record {
    move = tells_wait s stops no_rule base until is_base big next move;
    none = ap (λ n. n / base / served_limit) move.node ∙ none;
    step = tt;
    before = ap (λ n. n / base) move.node;
  }
  tells_step (drive x) big next none move = ⊎_elim
      (λ (d : IsDriveRoad s (plain_ruler stops) base x move.road). by_drive (tells_drive s stops no_rule base until is_base x big next move d))
      (λ (other : IsRestRoad s (plain_ruler stops) base x move.road ⊎ IsServiceRoad s (plain_ruler stops) base x move.road). ⊎_elim
      (λ (d : IsRestRoad s (plain_ruler stops) base x move.road). let bad : None ≡ Some d.rest = d.is in absurd (cc))
      (λ (d : IsServiceRoad s (plain_ruler stops) base x move.road).
      by_service (tells_service s stops no_rule base until is_base long few x big next move d))
      other)
      (road_kinds s (plain_ruler stops) base x move.road move.is)
    where
      by_drive : TellsDrive s stops no_rule base until is_base x big next → TellsStep (drive x) big next
      by_drive d =
          let after : next.node / base / served_limit ≡ 0 = sym (same_Some 0 (next.node / base / served_limit) d.allowed) in
          let same : next.node / base ≡ big.node / base =
          omega (arith, div-add-mod' (next.node / base) served_limit, div-add-mod' (big.node / base) served_limit, none, after, d.move.1) in
          record {
            move = subst (λ (w : TourStep). TourMoves s stops until w (tour_at base big) (tour_at base next))
                (sym (ap (λ n. tell_road n (x / 3 % base)) d.kind ∙ ap (λ n. tell_road 0 n) d.number)) d.move;
            none = after;
            step = inl (d.kind, d.held ∙ sym same);
            before = d.held;
          }

      by_service : TellsService s stops no_rule base until is_base x big next → TellsStep (drive x) big next
      by_service d =
          let place : big.node / base ≡ d.place = omega (arith, div-add-mod' (big.node / base) served_limit, none, d.move.next) in
          record {
            move = subst (λ (w : TourStep). TourMoves s stops until w (tour_at base big) (tour_at base next))
                (sym (ap (λ n. tell_road n (x / 3 % base)) d.kind ∙ ap (λ n. tell_road 2 n) d.number)) d.move;
            none = d.same ∙ none;
            step = inr (d.kind, d.held ∙ place ∙ sym d.number);
            before = d.held;
          }

  -- a walk over states tells a tour
  pub tells_walk : (xs : List Step) (big last : Position) → big.node / base / served_limit ≡ 0
      → Walks (product s (plain_ruler stops) base) until xs big last → TourWalks s stops until (map (tell base) xs) (tour_at base big) (tour_at base last)
  tells_walk [] big last none walk = ap (tour_at base) walk
  tells_walk (x ∷ xs) big last none walk =
      let one = tells_step x big walk.0 none walk.1 in
      (tour_at base walk.0, one.move, tells_walk xs walk.0 last one.none walk.2)

  -- the rules have no minutes at its end
  pub ends_plain : (xs : List Step) (big last : Position) → big.node / base / served_limit ≡ 0
      → Walks (product s (plain_ruler stops) base) until xs big last → last.node / base / served_limit ≡ 0
  ends_plain [] big last none walk = ap (λ (w : Position). w.node / base / served_limit) (sym walk) ∙ none
  ends_plain (x ∷ xs) big last none walk = ends_plain xs walk.0 last (tells_step x big walk.0 none walk.1).none walk.2

  -- its steps, the last first, behind others
  pub plain_steps : (xs : List Step) (big last : Position) (back : List Step) → big.node / base / served_limit ≡ 0 → ArePlainSteps base (big.node / base) back
      → Walks (product s (plain_ruler stops) base) until xs big last → ArePlainSteps base (last.node / base) (reverse xs ++ back)
  plain_steps [] big last back none plain walk = subst (λ (w : Position). ArePlainSteps base (w.node / base) back) walk plain
  plain_steps (x ∷ xs) big last back none plain walk =
      let one = tells_step x big walk.0 none walk.1 in
      subst (λ (w : List Step). ArePlainSteps base (last.node / base) w) (sym (reverse_onto x xs back))
      (plain_steps xs walk.0 last (x ∷ back) one.none
      (one.step, subst (λ n. ArePlainSteps base n back) (sym one.before) plain) walk.2)

  -- a step of a tour is one over states
  record IsOver (y : TourStep) (p q : TourPosition) : Type 0 where
    pub step : Step
    pub tells : tell base step ≡ y
    pub move : Moves (product s (plain_ruler stops) base) until step (over base 0 p) (over base 0 q)
    pub small : q.at.node < base
    pub low : q.served < suc (length (map stop_service stops))

  step_over : (y : TourStep) (p q : TourPosition) → p.at.node < base → p.served < suc (length (map stop_service stops)) → TourMoves s stops until y p q
      → IsOver y p q
  step_over (go (drive a)) p q small low move =
      let roads = is_base.arcs a move.0.road move.0.is in
      record {
        step = drive (road_code base 0 a move.0.road.tail (joint 0 p.served));
        tells = tell_code base 0 a move.0.road.tail (joint 0 p.served) (omega arith) roads.0;
        move = drives_over s stops no_rule base until is_base a 0 0 p q move (omega (arith, low, few)) refl;
        small = subst (λ n. n < base) (sym move.0.node) roads.2;
        low = omega (arith, move.1, low);
      }
  step_over (go wait) p q small low move = record {
    step = wait;
    tells = refl;
    move = waits_over s stops no_rule base until is_base 0 p q move small;
    small = omega (arith, move.0.node, small);
    low = omega (arith, move.1, low);
  }
  step_over (serve i) p q small low move =
      let found = next_service s stops no_rule base until is_base i p q move in
      let less = slice_get_within (map stop_service stops) p.served (stop_service move.stop) found in
      let place = is_base.services p.served (stop_service move.stop) found in
      let number : suc p.served ≡ i = omega (arith, move.next) in
      record {
        step = drive (road_code base 2 p.served 0 (joint 0 p.served));
        tells = tell_code base 2 p.served 0 (joint 0 p.served) (omega arith) place.0 ∙ ap (λ n. serve n) number;
        move = serves_over s stops no_rule base until is_base i 0 p q move (omega (arith, low, few));
        small = omega (arith, move.node, small);
        low = omega (arith, move.served, number, less);
      }

  -- a tour is told by a walk over states
  pub record IsToldWalk (ys : List TourStep) (p q : TourPosition) : Type 0 where
    pub steps : List Step
    pub tells : map (tell base) steps ≡ ys
    pub walk : Walks (product s (plain_ruler stops) base) until steps (over base 0 p) (over base 0 q)
    pub small : q.at.node < base

  pub told_walk : (ys : List TourStep) (p q : TourPosition) → p.at.node < base → p.served < suc (length (map stop_service stops))
      → TourWalks s stops until ys p q → IsToldWalk ys p q
  told_walk [] p q small low walk = record {
    steps = [];
    tells = refl;
    walk = ap (over base 0) walk;
    small = subst (λ (w : TourPosition). w.at.node < base) walk small;
  }
  told_walk (y ∷ ys) p q small low walk =
      let one = step_over y p walk.0 small low walk.1 in
      let more = told_walk ys walk.0 q one.small one.low walk.2 in
      record {
        steps = one.step ∷ more.steps;
        tells = ap (λ (w : TourStep). w ∷ map (tell base) more.steps) one.tells ∙ ap (λ (w : List TourStep). y ∷ w) more.tells;
        walk = (over base 0 walk.0, one.move, more.walk);
        small = more.small;
      }
