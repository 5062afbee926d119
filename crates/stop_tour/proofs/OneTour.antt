-- There is one list of right tours.
use Rattle.std.proofs.Common.{◌≡◌, inl, inr, ⊎_elim, ℕ, zero, suc, List, [], ◌∷◌, ◌++◌, map, replicate, refl, sym, ◌∙◌, ap, subst, arith}
use Rattle.std.specs.Prelude.{⊤, All, reverse}
use Rattle.route_base.specs.Setting.{Setting}
use Rattle.route_base.specs.Itinerary.{drive, wait}
use Rattle.route_base.specs.Front.{IsNoWorse}
use Rattle.route_base.specs.declared.types.ArcId.{ArcId}
use Rattle.route_base.specs.declared.types.Pair.{Pair}
use Rattle.route_base.specs.declared.types.Request.{Request}
use Rattle.route_base.proofs.Lists.{same_tail}
use Rattle.route_base.proofs.StepOrder.{never_both_steps, not_before_itself as no_step_before_itself}
use Rattle.front_transport.specs.ParetoFronts.{ArrivesBefore}
use Rattle.front_transport.proofs.OneFront.{one_front}
use Rattle.stop_tour.specs.Tours.{AchievesTour, AreRightTours, IsFirstTour, IsTourAchieved, IsTourStepBefore, TourComesBefore, TourStep, go, serve}
use Rattle.stop_tour.specs.Tours.{HasNoEmptyTourWait, HasNoNeighbouringTourWaits, StartsWithoutWait, tour_steps_of}
use Rattle.stop_tour.specs.declared.stops.Stop.{Stop}
use Rattle.stop_tour.specs.declared.stops.TourLeg.{TourLeg}
use Rattle.stop_tour.specs.declared.stops.TourLeg.TheVariants.{Drive, Wait, Serve}
use Rattle.stop_tour.specs.declared.stops.TourRoute.{TourRoute}

pub not_before_itself : (x : TourStep) → IsTourStepBefore x x → ⊥
not_before_itself (go x) h = no_step_before_itself x h
not_before_itself (serve i) h = omega (arith, h)

pub never_both_tour_steps : (x y : TourStep) → IsTourStepBefore x y → IsTourStepBefore y x → ⊥
never_both_tour_steps (go x) (go y) h k = never_both_steps x y h k
never_both_tour_steps (go x) (serve j) h k = k
never_both_tour_steps (serve i) (go y) h k = h
never_both_tour_steps (serve i) (serve j) h k = omega (arith, h, k)

-- of two lists at most one comes before the other
never_both : (xs ys : List TourStep) → TourComesBefore xs ys → TourComesBefore ys xs → ⊥
never_both [] ys h k = h
never_both (x ∷ xs) [] h k = h
never_both (x ∷ xs) (y ∷ ys) (inl h) (inl k) = never_both_tour_steps x y h k
never_both (x ∷ xs) (y ∷ ys) (inl h) (inr k) = not_before_itself x (subst (λ w. IsTourStepBefore x w) k.0 h)
never_both (x ∷ xs) (y ∷ ys) (inr h) (inl k) = not_before_itself y (subst (λ w. IsTourStepBefore y w) h.0 k)
never_both (x ∷ xs) (y ∷ ys) (inr h) (inr k) = never_both xs ys h.1 k.1

-- the first step is no wait
abbrev IsNoWait : List TourStep → Type 0
IsNoWait [] = ⊤
IsNoWait (go wait ∷ xs) = ⊥
IsNoWait (go (drive a) ∷ xs) = ⊤
IsNoWait (serve i ∷ xs) = ⊤

-- waits before other steps are as many
same_waits : (j k : ℕ) (xs ys : List TourStep) → IsNoWait xs → IsNoWait ys → replicate j (go wait) ++ xs ≡ replicate k (go wait) ++ ys
    → (j ≡ k) × (xs ≡ ys)
same_waits zero zero xs ys x y same = (refl, same)
same_waits zero (suc k) [] ys x y same = absurd (cc)
same_waits zero (suc k) (go wait ∷ xs) ys x y same = absurd x
same_waits zero (suc k) (go (drive a) ∷ xs) ys x y same = absurd (cc)
same_waits zero (suc k) (serve i ∷ xs) ys x y same = absurd (cc)
same_waits (suc j) zero xs [] x y same = absurd (cc)
same_waits (suc j) zero xs (go wait ∷ ys) x y same = absurd y
same_waits (suc j) zero xs (go (drive a) ∷ ys) x y same = absurd (cc)
same_waits (suc j) zero xs (serve i ∷ ys) x y same = absurd (cc)
same_waits (suc j) (suc k) xs ys x y same =
    let rest = same_waits j k xs ys x y (same_tail same) in
    (ap suc rest.0, rest.1)

-- legs that begin with no wait are steps that do
no_wait_first : (legs : List TourLeg) → StartsWithoutWait legs → IsNoWait (tour_steps_of legs)
no_wait_first [] first = tt
no_wait_first (Drive a ∷ legs) first = tt
no_wait_first (Wait k ∷ legs) first = absurd (first k refl)
no_wait_first (Serve i ∷ legs) first = tt

-- legs that are no empty waits, without neighbouring waits, are told by their steps
pub same_legs : (xs ys : List TourLeg) → HasNoEmptyTourWait xs → HasNoEmptyTourWait ys → HasNoNeighbouringTourWaits xs → HasNoNeighbouringTourWaits ys
    → tour_steps_of xs ≡ tour_steps_of ys → xs ≡ ys
same_legs [] [] some_x some_y apart_x apart_y same = refl
same_legs [] (Drive b ∷ ys) some_x some_y apart_x apart_y same = absurd (cc)
same_legs [] (Wait zero ∷ ys) some_x some_y apart_x apart_y same = absurd (some_y.0 refl)
same_legs [] (Wait (suc k) ∷ ys) some_x some_y apart_x apart_y same = absurd (cc)
same_legs [] (Serve j ∷ ys) some_x some_y apart_x apart_y same = absurd (cc)
same_legs (Drive a ∷ xs) [] some_x some_y apart_x apart_y same = absurd (cc)
same_legs (Wait zero ∷ xs) [] some_x some_y apart_x apart_y same = absurd (some_x.0 refl)
same_legs (Wait (suc j) ∷ xs) [] some_x some_y apart_x apart_y same = absurd (cc)
same_legs (Serve i ∷ xs) [] some_x some_y apart_x apart_y same = absurd (cc)
same_legs (Drive a ∷ xs) (Drive b ∷ ys) some_x some_y apart_x apart_y same =
    let number : a.0 ≡ b.0 = cc in
    let arc : a ≡ b = ap (λ (n : ℕ). record { 0 = n }) number in
    let rest = same_legs xs ys some_x.1 some_y.1 apart_x apart_y (same_tail same) in
    ap (λ (c : ArcId). Drive c ∷ xs) arc ∙ ap (λ (w : List TourLeg). Drive b ∷ w) rest
same_legs (Drive a ∷ xs) (Wait zero ∷ ys) some_x some_y apart_x apart_y same = absurd (some_y.0 refl)
same_legs (Drive a ∷ xs) (Wait (suc k) ∷ ys) some_x some_y apart_x apart_y same = absurd (cc)
same_legs (Drive a ∷ xs) (Serve j ∷ ys) some_x some_y apart_x apart_y same = absurd (cc)
same_legs (Wait zero ∷ xs) (Drive b ∷ ys) some_x some_y apart_x apart_y same = absurd (some_x.0 refl)
same_legs (Wait (suc j) ∷ xs) (Drive b ∷ ys) some_x some_y apart_x apart_y same = absurd (cc)
same_legs (Wait j ∷ xs) (Wait k ∷ ys) some_x some_y apart_x apart_y same =
    let waits = same_waits j k (tour_steps_of xs) (tour_steps_of ys) (no_wait_first xs apart_x.0) (no_wait_first ys apart_y.0) same in
    let rest = same_legs xs ys some_x.1 some_y.1 apart_x.1 apart_y.1 waits.1 in
    ap (λ (n : ℕ). Wait n ∷ xs) waits.0 ∙ ap (λ (w : List TourLeg). Wait k ∷ w) rest
same_legs (Wait zero ∷ xs) (Serve j ∷ ys) some_x some_y apart_x apart_y same = absurd (some_x.0 refl)
same_legs (Wait (suc k) ∷ xs) (Serve j ∷ ys) some_x some_y apart_x apart_y same = absurd (cc)
same_legs (Serve i ∷ xs) (Drive b ∷ ys) some_x some_y apart_x apart_y same = absurd (cc)
same_legs (Serve i ∷ xs) (Wait zero ∷ ys) some_x some_y apart_x apart_y same = absurd (some_y.0 refl)
same_legs (Serve i ∷ xs) (Wait (suc k) ∷ ys) some_x some_y apart_x apart_y same = absurd (cc)
same_legs (Serve i ∷ xs) (Serve j ∷ ys) some_x some_y apart_x apart_y same =
    let number : i ≡ j = cc in
    let rest = same_legs xs ys some_x.1 some_y.1 apart_x apart_y (same_tail same) in
    ap (λ (n : ℕ). Serve n ∷ xs) number ∙ ap (λ (w : List TourLeg). Serve j ∷ w) rest

module _ (s : Setting) (r : Request) (stops : List Stop) where
  abbrev IsRightTour : TourRoute → Type 0
  IsRightTour x = AchievesTour s r stops x × IsFirstTour s r stops x

  same_tour : (x y : TourRoute) → IsRightTour x → IsRightTour y → x.pair ≡ y.pair → x ≡ y
  same_tour x y right_x right_y pair =
      let y_for_x = subst (λ (p : Pair). AchievesTour s r stops (record { pair = p; legs = y.legs })) (sym pair) right_y.0 in
      let x_for_y = subst (λ (p : Pair). AchievesTour s r stops (record { pair = p; legs = x.legs })) pair right_x.0 in
      let steps : tour_steps_of x.legs ≡ tour_steps_of y.legs = ⊎_elim
      (λ (same : tour_steps_of y.legs ≡ tour_steps_of x.legs). sym same)
      (λ (before : TourComesBefore (reverse (tour_steps_of x.legs)) (reverse (tour_steps_of y.legs))). ⊎_elim
      (λ (same : tour_steps_of x.legs ≡ tour_steps_of y.legs). same)
      (λ (after : TourComesBefore (reverse (tour_steps_of y.legs)) (reverse (tour_steps_of x.legs))).
      absurd (never_both (reverse (tour_steps_of x.legs)) (reverse (tour_steps_of y.legs)) before after))
      (right_y.1 (tour_steps_of x.legs) x_for_y.walk))
      (right_x.1 (tour_steps_of y.legs) y_for_x.walk) in
      let legs = same_legs x.legs y.legs right_x.0.no_empty_wait right_y.0.no_empty_wait right_x.0.apart right_y.0.apart steps in
      λ i. record { pair = pair i; legs = legs i }

  same_tours : (xs ys : List TourRoute) → All IsRightTour xs → All IsRightTour ys → map (λ x. x.pair) xs ≡ map (λ x. x.pair) ys → xs ≡ ys
  same_tours [] [] right_x right_y pairs = refl
  same_tours [] (y ∷ ys) right_x right_y pairs = absurd (cc)
  same_tours (x ∷ xs) [] right_x right_y pairs = absurd (cc)
  same_tours (x ∷ xs) (y ∷ ys) right_x right_y pairs =
      let pair : x.pair ≡ y.pair = cc in
      let first = same_tour x y (right_x 0 x (omega arith)) (right_y 0 y (omega arith)) pair in
      let rest = same_tours xs ys (λ k d within. right_x (suc k) d (omega (arith, within))) (λ k d within. right_y (suc k) d (omega (arith, within)))
      (same_tail pairs) in
      λ i. first i ∷ rest i

  -- two lists of right tours are one
  pub one_tour_answer : (xs ys : List TourRoute) → AreRightTours s r stops xs → AreRightTours s r stops ys → xs ≡ ys
  one_tour_answer xs ys right_x right_y =
      same_tours xs ys (λ k d within. (right_x.legs k d within, right_x.first k d within))
      (λ k d within. (right_y.legs k d within, right_y.first k d within))
      (one_front ArrivesBefore (λ p q before after. omega (arith, before, after)) IsNoWorse (IsTourAchieved s r stops)
      (map (λ x. x.pair) xs) (map (λ x. x.pair) ys) right_x.front right_y.front)
