-- Of two walks over the states of tours without a break rule, that which comes before tells the tour that comes before.
use Rattle.std.proofs.Common.{◌≡◌, ◌⊎◌, inl, inr, ⊎_elim, ℕ, zero, suc, ◌/◌, ◌%◌, ◌<◌, List, [], ◌∷◌, map, refl, sym, ◌∙◌, ap, subst, arith}
use Rattle.route_base.specs.Itinerary.{Step, drive, wait}
use Rattle.ruled_search.specs.Routes.{AreAlikeSteps, ComesRuledBefore, IsAlikeStep, IsKindBefore, IsRuledStepBefore, state_before}
use Rattle.stop_tour.specs.Tours.{TourStep, go, IsTourStepBefore, TourComesBefore}
use Rattle.rested_tours.proofs.PlainWalks.{tell_road, tell, IsPlainStep, ArePlainSteps}

-- a wait comes before each road that is no rest
wait_first : (n a : ℕ) → (n ≡ 0) ⊎ (n ≡ 2) → IsTourStepBefore (go wait) (tell_road n a)
wait_first zero a kind = tt
wait_first (suc zero) a kind = ⊎_elim
    (λ (z : ◌≡◌ {A = ℕ} 1 0). absurd (omega (arith, z)))
    (λ (z : ◌≡◌ {A = ℕ} 1 2). absurd (omega (arith, z)))
    kind
wait_first (suc (suc n)) a kind = tt

-- of two roads that are no rests that which comes before over states does so in tours
road_first : (m n a b : ℕ) → (m ≡ 0) ⊎ (m ≡ 2) → (n ≡ 0) ⊎ (n ≡ 2) → IsKindBefore m n ⊎ ((m ≡ n) × (a < b))
    → IsTourStepBefore (tell_road m a) (tell_road n b)
road_first m n a b (inl one) (inl two) before =
    subst (λ w. IsTourStepBefore (tell_road w a) (tell_road n b)) (sym one)
    (subst (λ w. IsTourStepBefore (tell_road 0 a) (tell_road w b)) (sym two) (⊎_elim
    (λ (kind : IsKindBefore m n). ⊎_elim
    (λ (h : (m ≡ 1) × ((n ≡ 0) ⊎ (n ≡ 2))). absurd (omega (arith, one, h.0)))
    (λ (h : (m ≡ 0) × (n ≡ 2)). absurd (omega (arith, two, h.1)))
    kind)
    (λ (h : (m ≡ n) × (a < b)). h.1)
    before))
road_first m n a b (inl one) (inr two) before =
    subst (λ w. IsTourStepBefore (tell_road w a) (tell_road n b)) (sym one)
    (subst (λ w. IsTourStepBefore (tell_road 0 a) (tell_road w b)) (sym two) tt)
road_first m n a b (inr one) (inl two) before = ⊎_elim
    (λ (kind : IsKindBefore m n). ⊎_elim
    (λ (h : (m ≡ 1) × ((n ≡ 0) ⊎ (n ≡ 2))). absurd (omega (arith, one, h.0)))
    (λ (h : (m ≡ 0) × (n ≡ 2)). absurd (omega (arith, one, h.0)))
    kind)
    (λ (h : (m ≡ n) × (a < b)). absurd (omega (arith, one, two, h.0)))
    before
road_first m n a b (inr one) (inr two) before =
    subst (λ w. IsTourStepBefore (tell_road w a) (tell_road n b)) (sym one)
    (subst (λ w. IsTourStepBefore (tell_road 2 a) (tell_road w b)) (sym two) (⊎_elim
    (λ (kind : IsKindBefore m n). ⊎_elim
    (λ (h : (m ≡ 1) × ((n ≡ 0) ⊎ (n ≡ 2))). absurd (omega (arith, one, h.0)))
    (λ (h : (m ≡ 0) × (n ≡ 2)). absurd (omega (arith, one, h.0)))
    kind)
    (λ (h : (m ≡ n) × (a < b)). omega (arith, h.1))
    before))

module _ (base : ℕ) where
  no_rest : (x k : ℕ) → IsPlainStep base (drive x) k → (x % 3 ≡ 0) ⊎ (x % 3 ≡ 2)
  no_rest x k (inl plain) = inl plain.0
  no_rest x k (inr plain) = inr plain.0

  step_before : (x y : Step) (j k : ℕ) → IsPlainStep base x j → IsPlainStep base y k → IsRuledStepBefore base x y
      → IsTourStepBefore (tell base x) (tell base y)
  step_before wait wait j k one two before = absurd before
  step_before wait (drive y) j k one two before = wait_first (y % 3) (y / 3 % base) (no_rest y k two)
  step_before (drive x) wait j k one two before = absurd before
  step_before (drive x) (drive y) j k one two before =
      road_first (x % 3) (y % 3) (x / 3 % base) (y / 3 % base) (no_rest x j one) (no_rest y k two) before

  alike_step : (x y : Step) → IsAlikeStep base x y → tell base x ≡ tell base y
  alike_step wait wait alike = refl
  alike_step wait (drive y) alike = absurd alike
  alike_step (drive x) wait alike = absurd alike
  alike_step (drive x) (drive y) alike = ap (λ n. tell_road n (x / 3 % base)) alike.0 ∙ ap (λ n. tell_road (y % 3) n) alike.1

  -- walks whose steps are alike tell one tour
  pub alike_tours : (xs ys : List Step) → AreAlikeSteps base xs ys → map (tell base) xs ≡ map (tell base) ys
  alike_tours [] [] alike = refl
  alike_tours [] (y ∷ ys) alike = absurd alike
  alike_tours (x ∷ xs) [] alike = absurd alike
  alike_tours (x ∷ xs) (y ∷ ys) alike =
      ap (λ (w : TourStep). w ∷ map (tell base) xs) (alike_step x y alike.0) ∙ ap (λ (w : List TourStep). tell base y ∷ w) (alike_tours xs ys alike.1)

  -- steps that are alike lead from one state to one state
  same_before : (x y : Step) (j k : ℕ) → j ≡ k → IsPlainStep base x j → IsPlainStep base y k → IsAlikeStep base x y
      → state_before base x j ≡ state_before base y k
  same_before wait wait j k same one two alike = same
  same_before wait (drive y) j k same one two alike = absurd alike
  same_before (drive x) wait j k same one two alike = absurd alike
  same_before (drive x) (drive y) j k same (inl one) (inl two) alike = one.1 ∙ same ∙ sym two.1
  same_before (drive x) (drive y) j k same (inl one) (inr two) alike = absurd (omega (arith, one.0, two.0, alike.0))
  same_before (drive x) (drive y) j k same (inr one) (inl two) alike = absurd (omega (arith, one.0, two.0, alike.0))
  same_before (drive x) (drive y) j k same (inr one) (inr two) alike = one.1 ∙ alike.1 ∙ sym two.1

  -- a walk to the same state that comes before tells a tour that does
  pub tour_before : (xs ys : List Step) (j k : ℕ) → j ≡ k → ArePlainSteps base j xs → ArePlainSteps base k ys → ComesRuledBefore base j xs k ys
      → TourComesBefore (map (tell base) xs) (map (tell base) ys)
  tour_before [] ys j k same one two before = absurd (omega (arith, same, before))
  tour_before (x ∷ xs) [] j k same one two before = absurd (omega (arith, same, before))
  tour_before (x ∷ xs) (y ∷ ys) j k same one two before = ⊎_elim
      (λ (less : j < k). absurd (omega (arith, same, less)))
      (λ (h : (j ≡ k) × (IsRuledStepBefore base x y
      ⊎ (IsAlikeStep base x y × ComesRuledBefore base (state_before base x j) xs (state_before base y k) ys))). ⊎_elim
      (λ (first : IsRuledStepBefore base x y). inl (step_before x y j k one.0 two.0 first))
      (λ (more : IsAlikeStep base x y × ComesRuledBefore base (state_before base x j) xs (state_before base y k) ys).
      inr (
        alike_step x y more.0,
        tour_before xs ys (state_before base x j) (state_before base y k)
            (same_before x y j k same one.0 two.0 more.0) one.1 two.1 more.1,
      ))
      h.1)
      before
