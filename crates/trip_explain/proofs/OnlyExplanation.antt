-- Legs have one explanation.
use Rattle.std.proofs.Common.{◌≡◌, ℕ, ◌+◌, ◌<◌, ◌≤◌, Some, List, [], ◌∷◌, ◌++◌, inl, inr, length, take, slice_get, refl, sym, ◌∙◌, ap, subst, arith}
use Rattle.std.proofs.lemmas.Bool.{cases_lt}
use Rattle.std.proofs.lemmas.List.{take-take}
use Rattle.std.proofs.lemmas.Option.{slice_get_within}
use Rattle.route_base.proofs.Walking.{moves_same, walks_same, walk_parts}
use Rattle.route_base.specs.Itinerary.{Position, Step, Walks}
use Rattle.route_base.specs.Legs.{steps_of, steps_of_leg, start_of}
use Rattle.route_base.specs.declared.types.Leg.{Leg}
use Rattle.route_base.specs.declared.types.Request.{Request}
use Rattle.vehicle_classes.specs.VehicleModel.{VehicleModel}
use Rattle.network_tables.specs.NetworkModel.{NetworkModel}
use Rattle.network_tables.specs.RoadSetting.{road_setting}
use Rattle.trip_explain.specs.declared.explanation.Why.{Why}
use Rattle.trip_explain.specs.Explanations.{IsUnlawfulAt, StopsIn}
use Rattle.trip_explain.specs.Reasons.{IsBarred}
use Rattle.trip_explain.proofs.OneExplanation.{walk_on, legs_split, no_move}
use Rattle.trip_explain.proofs.OnlyReason.{stuck_once}
use Rattle.network_tables.proofs.ArcPlaces.{some_same, taken}

module _ (network : NetworkModel) (vehicle : VehicleModel) (until : ℕ) where
  stuck_from : (p q : Position) (x y : Step) (t u : ℕ) (why other : Why) → p ≡ q → x ≡ y
      → IsBarred network vehicle until p x t why → IsBarred network vehicle until q y u other → (t ≡ u) × (why ≡ other)
  stuck_from p q x y t u why other same step one two =
      stuck_once network vehicle until q y t u why other
      (subst (λ (w : Position). IsBarred network vehicle until w y t why) same
      (subst (λ (s : Step). IsBarred network vehicle until p s t why) step one))
      two

  stuck_later : (p q r : Position) (x y : Step) (t : ℕ) (why : Why) → p ≡ q → x ≡ y → IsBarred network vehicle until q x t why
      → (w : Position) → Walks (road_setting network vehicle) until (y ∷ []) p w → ⊥
  stuck_later p q r x y t why same step one w walk =
      no_move network vehicle until p walk.0 y t why
      (subst (λ (w : Position). IsBarred network vehicle until w y t why) (sym same)
      (subst (λ (s : Step). IsBarred network vehicle until q s t why) step one))
      walk.1

  stops_once : (bs cs es ds : List Step) (x y : Step) (p q r : Position) (t u : ℕ) (why other : Why) → bs ++ x ∷ es ≡ cs ++ y ∷ ds
      → Walks (road_setting network vehicle) until bs p q → Walks (road_setting network vehicle) until cs p r
      → IsBarred network vehicle until q x t why → IsBarred network vehicle until r y u other → (t ≡ u) × (why ≡ other)
  stops_once [] [] es ds x y p q r t u why other same one two stuck again =
      let step : x ≡ y = cc in
      stuck_from q r x y t u why other (sym one ∙ two) step stuck again
  stops_once [] (c ∷ cs) es ds x y p q r t u why other same one two stuck again =
      let step : x ≡ c = cc in
      absurd (stuck_later p q r x c t why one step stuck two.0 (two.0, two.1, refl))
  stops_once (b ∷ bs) [] es ds x y p q r t u why other same one two stuck again =
      let step : y ≡ b = cc in
      absurd (stuck_later p r q y b u other two step again one.0 (one.0, one.1, refl))
  stops_once (b ∷ bs) (c ∷ cs) es ds x y p q r t u why other same one two stuck again =
      let step : b ≡ c = cc in
      let rest : bs ++ x ∷ es ≡ cs ++ y ∷ ds = cc in
      let s = road_setting network vehicle in
      let move = subst (λ (s' : Step). Walks s until (s' ∷ []) p one.0) step (one.0, one.1, refl) in
      let next : move.0 ≡ two.0 = moves_same s until c p move.0 two.0 move.1 two.1 in
      let on : one.0 ≡ two.0 = sym move.2 ∙ next in
      stops_once bs cs es ds x y two.0 q r t u why other rest
      (subst (λ (w : Position). Walks s until bs w q) on one.2) two.2 stuck again

-- legs that stop at one of them lead nowhere
stops_nowhere : (network : NetworkModel) (vehicle : VehicleModel) (until : ℕ) (legs : List Leg) (i : ℕ) (leg : Leg) (p at q : Position) (t : ℕ) (why : Why)
    → slice_get legs i ≡ Some leg → Walks (road_setting network vehicle) until (steps_of (take i legs)) p at
    → StopsIn network vehicle until leg at t why → Walks (road_setting network vehicle) until (steps_of legs) p q → ⊥
stops_nowhere network vehicle until legs i leg p at q t why there before stops whole =
    let s = road_setting network vehicle in
    let split = legs_split legs i leg there in
    let walk = subst (λ (xs : List Step). Walks s until xs p q) split.1 whole in
    let on = walk_on s until (steps_of (take i legs)) (steps_of_leg leg ++ split.0) p at q before walk in
    let parts = walk_parts s until (steps_of_leg leg) split.0 at q on in
    let within = subst (λ (xs : List Step). Walks s until xs at parts.0) stops.steps parts.1 in
    let next = walk_on s until stops.made (stops.step ∷ stops.left) at stops.at parts.0 stops.walk within in
    no_move network vehicle until stops.at next.0 stops.step t why stops.stuck next.1

module _ (network : NetworkModel) (vehicle : VehicleModel) (r : Request) (legs : List Leg) where
  within_legs : (n t : ℕ) (why : Why) (u : IsUnlawfulAt network vehicle r legs n t why) → u.i ≤ length legs
  within_legs n t why u =
      elim u.here [
        | inl here ↦ let within = slice_get_within legs u.i here.0 here.1 in omega (arith, within)
        | inr here ↦ omega (arith, here.all)
      ]

  not_before : (n m t t' : ℕ) (why other : Why) (u : IsUnlawfulAt network vehicle r legs n t why) (v : IsUnlawfulAt network vehicle r legs m t' other)
      → u.i < v.i → ⊥
  not_before n m t t' why other u v less =
      elim u.here [
        | inl here ↦
            let s = road_setting network vehicle in
            let first : take u.i (take v.i legs) ≡ take u.i legs = take-take u.i v.i legs (omega (arith, less)) in
            stops_nowhere network vehicle r.until (take v.i legs) u.i here.0 (start_of r) u.at v.at t why
            (taken legs u.i v.i here.0 less here.1)
            (subst (λ (xs : List Leg). Walks s r.until (steps_of xs) (start_of r) u.at) (sym first) u.led.walk)
            here.2 v.led.walk
        | inr here ↦ let most = within_legs m t' other v in omega (arith, here.all, most, less)
      ]

  one_place : (n m t t' : ℕ) (why other : Why) (u : IsUnlawfulAt network vehicle r legs n t why) (v : IsUnlawfulAt network vehicle r legs m t' other)
      → u.i ≡ v.i
  one_place n m t t' why other u v =
      elim (cases_lt u.i v.i) [
        | inl less ↦ absurd (not_before n m t t' why other u v less)
        | inr over ↦ elim (cases_lt v.i u.i) [
          | inl more ↦ absurd (not_before m n t' t other why v u more)
          | inr under ↦ omega (arith, over, under)
        ]
      ]

  one_stop : (i : ℕ) (leg also : Leg) (p q : Position) (t t' : ℕ) (why other : Why) → slice_get legs i ≡ Some leg → slice_get legs i ≡ Some also
      → p ≡ q → StopsIn network vehicle r.until leg p t why → StopsIn network vehicle r.until also q t' other → (t ≡ t') × (why ≡ other)
  one_stop i leg also p q t t' why other there here same one two =
      let leg_is : leg ≡ also = some_same (slice_get legs i) leg also there here in
      stops_once network vehicle r.until one.made two.made one.left two.left one.step two.step q one.at two.at t t' why other
      (sym one.steps ∙ ap steps_of_leg leg_is ∙ two.steps)
      (subst (λ (w : Position). Walks (road_setting network vehicle) r.until one.made w one.at) same one.walk)
      two.walk one.stuck two.stuck

  pub one_explanation : (n m t t' : ℕ) (why other : Why) → IsUnlawfulAt network vehicle r legs n t why → IsUnlawfulAt network vehicle r legs m t' other
      → (n ≡ m) × ((t ≡ t') × (why ≡ other))
  one_explanation n m t t' why other u v =
      let s = road_setting network vehicle in
      let place : u.i ≡ v.i = one_place n m t t' why other u v in
      let at : u.at ≡ v.at = walks_same s r.until (steps_of (take v.i legs)) (start_of r) u.at v.at
      (subst (λ (k : ℕ). Walks s r.until (steps_of (take k legs)) (start_of r) u.at) place u.led.walk) v.led.walk in (
        u.number_is ∙ ap (λ (k : ℕ). k + 1) place ∙ sym v.number_is,
        elim u.here [
          | inl here ↦ elim v.here [
            | inl there ↦ one_stop v.i here.0 there.0 u.at v.at t t' why other
                (subst (λ (k : ℕ). slice_get legs k ≡ Some here.0) place here.1) there.1 at here.2 there.2
            | inr there ↦ let within = slice_get_within legs u.i here.0 here.1 in absurd (omega (arith, within, place, there.all))
          ]
          | inr here ↦ elim v.here [
            | inl there ↦ let within = slice_get_within legs v.i there.0 there.1 in absurd (omega (arith, within, place, here.all))
            | inr there ↦ (here.minute_is ∙ ap (λ (w : Position). w.minute) at ∙ sym there.minute_is, here.goal ∙ sym there.goal)
          ]
        ],
      )
