-- Legs that are unlawful somewhere achieve no pair.
use Rattle.std.proofs.Common.{◌≡◌, ℕ, zero, suc, true, false, Some, None, List, [], ◌∷◌, ◌++◌, inl, inr, length, take, slice_get}
use Rattle.std.proofs.Common.{sym, ◌∙◌, ap, subst, append_assoc, arith}
use Rattle.std.proofs.lemmas.List.{take_all}
use Rattle.route_base.specs.Setting.{Setting, Road}
use Rattle.route_base.specs.Itinerary.{Position, Step, drive, wait, Moves, Walks}
use Rattle.route_base.specs.Legs.{steps_of, steps_of_leg, start_of, end_of, Achieves}
use Rattle.route_base.specs.declared.types.Leg.{Leg}
use Rattle.route_base.specs.declared.types.Pair.{Pair}
use Rattle.route_base.specs.declared.types.Request.{Request}
use Rattle.route_base.proofs.Walking.{walks_same, walk_parts}
use Rattle.vehicle_classes.specs.VehicleModel.{VehicleModel}
use Rattle.network_tables.specs.NetworkModel.{NetworkModel}
use Rattle.network_tables.specs.RoadSetting.{road_setting}
use Rattle.trip_explain.specs.declared.explanation.Why.{Why}
use Rattle.trip_explain.specs.Explanations.{IsUnlawfulAt}
use Rattle.trip_explain.specs.Reasons.{IsBarred, elsewhere, late, closed, unrated, late_wait, shut_wait}
use Rattle.network_tables.proofs.ArcPlaces.{some_same}

module _ (s : Setting) (until : ℕ) where
  -- what follows the first part goes on from where the first part leads
  pub walk_on : (xs ys : List Step) (p q r : Position) → Walks s until xs p q → Walks s until (xs ++ ys) p r → Walks s until ys q r
  walk_on xs ys p q r first walk =
      let parts = walk_parts s until xs ys p r walk in
      subst (λ (w : Position). Walks s until ys w r) (walks_same s until xs p parts.0 q parts.1 first) parts.2

-- the steps before a leg, its own and the rest
pub legs_split : (legs : List Leg) (i : ℕ) (leg : Leg) → slice_get legs i ≡ Some leg
    → (rest : List Step) × (steps_of legs ≡ steps_of (take i legs) ++ (steps_of_leg leg ++ rest))
legs_split [] i leg there = absurd (cc)
legs_split (x ∷ xs) zero leg there =
    let same : x ≡ leg = cc in
    (steps_of xs, ap (λ (l : Leg). steps_of_leg l ++ steps_of xs) same)
legs_split (x ∷ xs) (suc i) leg there =
    let rest = legs_split xs i leg there in (
      rest.0,
      ap (λ (w : List Step). steps_of_leg x ++ w) rest.1
          ∙ sym (append_assoc (steps_of_leg x) (steps_of (take i xs)) (steps_of_leg leg ++ rest.0)),
    )

-- a step for which there is a reason can't be made
pub no_move : (network : NetworkModel) (vehicle : VehicleModel) (until : ℕ) (p q : Position) (x : Step) (t : ℕ) (why : Why)
    → IsBarred network vehicle until p x t why → Moves (road_setting network vehicle) until x p q → ⊥
no_move network vehicle until p q (drive a) t why (elsewhere (inl none)) move =
    let bad : None ≡ Some move.road = sym none ∙ move.is in cc
no_move network vehicle until p q (drive a) t why (elsewhere (inr (road, is, differs))) move =
    let same : road ≡ move.road = some_same ((road_setting network vehicle).road a) road move.road is move.is in
    differs (ap (λ (w : Road). w.tail) same ∙ move.tail)
no_move network vehicle until p q (drive a) t why (late road begins after) move =
    let same : road ≡ move.road = some_same ((road_setting network vehicle).road a) road move.road begins.is move.is in
    let minutes : road.minutes ≡ move.road.minutes = ap (λ (w : Road). w.minutes) same in
    omega (arith, minutes, after, move.in_time)
no_move network vehicle until p q (drive a) t why (closed road begins fits within first) move =
    let same : road ≡ move.road = some_same ((road_setting network vehicle).road a) road move.road begins.is move.is in
    let minutes : road.minutes ≡ move.road.minutes = ap (λ (w : Road). w.minutes) same in
    let bad : false ≡ true = sym (move.is_open t first.from_on (omega (arith, minutes, within))) ∙ first.closed in
    cc
no_move network vehicle until p q wait t why (unrated none) move =
    let bad : None ≡ Some move.weight = sym none ∙ move.rated in cc
no_move network vehicle until p q wait t why (late_wait weight rated after) move = omega (arith, after, move.in_time)
no_move network vehicle until p q wait t why (shut_wait weight rated fits shut) move =
    let bad : false ≡ true = sym move.is_open ∙ shut in cc

pub never_both : (network : NetworkModel) (vehicle : VehicleModel) (r : Request) (legs : List Leg) (number t : ℕ) (why : Why) (pair : Pair)
    → IsUnlawfulAt network vehicle r legs number t why → Achieves (road_setting network vehicle) r legs pair → ⊥
never_both network vehicle r legs number t why pair unlawful achieved =
    elim unlawful.here [
      | inl here ↦
          let s = road_setting network vehicle in
          let leg : Leg = here.0 in
          let stops = here.2 in
          let split = legs_split legs unlawful.i leg here.1 in
          let walk = subst (λ (xs : List Step). Walks s r.until xs (start_of r) (end_of r pair)) split.1 achieved.walk in
          let on = walk_on s r.until (steps_of (take unlawful.i legs)) (steps_of_leg leg ++ split.0) (start_of r) unlawful.at (end_of r pair)
          unlawful.led.walk walk in
          let parts = walk_parts s r.until (steps_of_leg leg) split.0 unlawful.at (end_of r pair) on in
          let within = subst (λ (xs : List Step). Walks s r.until xs unlawful.at parts.0) stops.steps parts.1 in
          let next = walk_on s r.until stops.made (stops.step ∷ stops.left) unlawful.at stops.at parts.0 stops.walk within in
          no_move network vehicle r.until stops.at next.0 stops.step t why stops.stuck next.1
      | inr here ↦
          let s = road_setting network vehicle in
          let all : take unlawful.i legs ≡ legs = ap (λ (n : ℕ). take n legs) here.all ∙ take_all (length legs) legs (omega arith) in
          let walk = subst (λ (xs : List Leg). Walks s r.until (steps_of xs) (start_of r) unlawful.at) all unlawful.led.walk in
          let same : unlawful.at ≡ end_of r pair = walks_same s r.until (steps_of legs) (start_of r) unlawful.at (end_of r pair) walk achieved.walk in
          here.elsewhere (ap (λ (p : Position). p.node) same)
    ]
