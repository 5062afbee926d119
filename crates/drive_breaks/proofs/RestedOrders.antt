-- The order of itineraries that keep a break rule: of two of one pair just one comes first.
use Rattle.std.proofs.Common.{◌≡◌, ◌⊎◌, inl, inr, ⊎_elim, ℕ, ◌≤◌, ◌<◌, Option, List, [], ◌∷◌, refl, sym, ◌∙◌, ap, subst, arith}
use Rattle.std.specs.Prelude.{reverse}
use Rattle.std.proofs.lemmas.Bool.{cases_order}
use Rattle.std.proofs.lemmas.List.{reverse-reverse}
use Rattle.route_base.specs.FirstItinerary.{IsStepBefore}
use Rattle.route_base.specs.Itinerary.{Position, Step, Moves, Walks}
use Rattle.route_base.specs.Setting.{Road, Setting}
use Rattle.route_base.proofs.Arcs.{TakesTime}
use Rattle.route_base.proofs.BackwardWalks.{LeadsBack, leads_back}
use Rattle.route_base.proofs.GoingBack.{same_source}
use Rattle.route_base.proofs.StepOrder.{never_both_steps, not_before_itself, step_order}
use Rattle.route_base.proofs.Walking.{moves_later}
use Rattle.drive_breaks.specs.Rested.{IsStretch}
use Rattle.drive_breaks.specs.RestedOrder.{ComesRestedBefore, IsAsDriven, IsLessDriven}
use Rattle.drive_breaks.proofs.LastBreak.{same_stretch, some_stretch}

module _ (roads : ℕ → Option Road) (rest : ℕ) where
  pub never_less : (xs ys : List Step) → IsLessDriven roads rest xs ys → IsLessDriven roads rest ys xs → ⊥
  never_less xs ys h k =
      omega (arith, h.4, k.4, same_stretch roads rest xs h.0 k.1 h.2 k.3, same_stretch roads rest ys h.1 k.0 h.3 k.2)

  pub less_or_as : (xs ys : List Step) → IsLessDriven roads rest xs ys → IsAsDriven roads rest ys xs → ⊥
  less_or_as xs ys h k =
      omega (arith, h.4, same_stretch roads rest xs h.0 k.0 h.2 k.2, same_stretch roads rest ys h.1 k.0 h.3 k.1)

  -- of two lists at most one comes before the other
  pub never_both : (xs ys : List Step) → ComesRestedBefore roads rest xs ys → ComesRestedBefore roads rest ys xs → ⊥
  never_both [] ys h k = h
  never_both (x ∷ xs) [] h k = h
  never_both (x ∷ xs) (y ∷ ys) (inl h) (inl k) = never_less (x ∷ xs) (y ∷ ys) h k
  never_both (x ∷ xs) (y ∷ ys) (inl h) (inr k) = less_or_as (x ∷ xs) (y ∷ ys) h k.0
  never_both (x ∷ xs) (y ∷ ys) (inr h) (inl k) = less_or_as (y ∷ ys) (x ∷ xs) k h.0
  never_both (x ∷ xs) (y ∷ ys) (inr (as_h, inl h)) (inr (as_k, inl k)) = never_both_steps x y h k
  never_both (x ∷ xs) (y ∷ ys) (inr (as_h, inl h)) (inr (as_k, inr k)) =
      not_before_itself x (subst (λ w. IsStepBefore x w) k.0 h)
  never_both (x ∷ xs) (y ∷ ys) (inr (as_h, inr h)) (inr (as_k, inl k)) =
      not_before_itself y (subst (λ w. IsStepBefore y w) h.0 k)
  never_both (x ∷ xs) (y ∷ ys) (inr (as_h, inr h)) (inr (as_k, inr k)) = never_both xs ys h.1 k.1

module _ (s : Setting) (until : ℕ) (takes : TakesTime s) (rest : ℕ) (some : 1 ≤ rest) where
  back_grows : (xs : List Step) (p q : Position) → LeadsBack s until xs p q → p.minute ≤ q.minute
  back_grows [] p q leads = omega (arith, ap (λ (w : Position). w.minute) leads)
  back_grows (x ∷ xs) p q leads = omega (arith, back_grows xs p leads.0 leads.1, moves_later s until takes x leads.0 q leads.2)

  never_back : (x : Step) (xs : List Step) (p q : Position) → p ≡ q → LeadsBack s until (x ∷ xs) p q → ⊥
  never_back x xs p q same leads = omega (
    arith,
    back_grows xs p leads.0 leads.1,
    moves_later s until takes x leads.0 q leads.2,
    ap (λ (w : Position). w.minute) same,
  )

  -- steps that are one have one source
  one_source : (x y : Step) (p q u : Position) → x ≡ y → Moves s until x p u → Moves s until y q u → p ≡ q
  one_source x y p q u same from to = same_source s until x p q u from (subst (λ (w : Step). Moves s until w q u) (sym same) to)

  Either : List Step → List Step → Type 0
  Either xs ys = (xs ≡ ys) ⊎ (ComesRestedBefore s.road rest xs ys ⊎ ComesRestedBefore s.road rest ys xs)

  either : (xs ys : List Step) (p q : Position) → LeadsBack s until xs p q → LeadsBack s until ys p q → Either xs ys
  unfolding Either
  either [] [] p q one two = inl refl
  either [] (y ∷ ys) p q one two = absurd (never_back y ys p q one two)
  either (x ∷ xs) [] p q one two = absurd (never_back x xs p q two one)
  either (x ∷ xs) (y ∷ ys) p q one two =
      let j = some_stretch s.road rest (x ∷ xs) some in
      let k = some_stretch s.road rest (y ∷ ys) some in
      ⊎_elim
      (λ (same : j.0 ≡ k.0).
      let behind_y : IsStretch s.road rest (y ∷ ys) j.0 = subst (IsStretch s.road rest (y ∷ ys)) (sym same) k.1 in
      ⊎_elim
      (λ (step : x ≡ y).
      let source : one.0 ≡ two.0 = one_source x y one.0 two.0 q step one.2 two.2 in
      ⊎_elim
      (λ (all : xs ≡ ys). inl (λ i. step i ∷ all i))
      (λ (apart : ComesRestedBefore s.road rest xs ys ⊎ ComesRestedBefore s.road rest ys xs). inr (⊎_elim
      (λ (before : ComesRestedBefore s.road rest xs ys). inl (inr ((j.0, j.1, behind_y), inr (step, before))))
      (λ (after : ComesRestedBefore s.road rest ys xs). inr (inr ((j.0, behind_y, j.1), inr (sym step, after))))
      apart))
      (either xs ys p one.0 one.1 (subst (λ (w : Position). LeadsBack s until ys p w) (sym source) two.1)))
      (λ (apart : IsStepBefore x y ⊎ IsStepBefore y x). inr (⊎_elim
      (λ (less : IsStepBefore x y). inl (inr ((j.0, j.1, behind_y), inl less)))
      (λ (more : IsStepBefore y x). inr (inr ((j.0, behind_y, j.1), inl more)))
      apart))
      (step_order x y))
      (λ (apart : (j.0 < k.0) ⊎ (k.0 < j.0)). inr (⊎_elim
      (λ (less : j.0 < k.0). inl (inl (j.0, k.0, j.1, k.1, less)))
      (λ (more : k.0 < j.0). inr (inl (k.0, j.0, k.1, j.1, more)))
      apart))
      (cases_order j.0 k.0)

  -- two itineraries with one start and one end are the same, or one of them comes before the other
  pub total : (xs ys : List Step) (p q : Position) → Walks s until xs p q → Walks s until ys p q
      → (xs ≡ ys) ⊎ (ComesRestedBefore s.road rest (reverse xs) (reverse ys) ⊎ ComesRestedBefore s.road rest (reverse ys) (reverse xs))
  unfolding Either
  total xs ys p q one two = ⊎_elim
      (λ (same : reverse xs ≡ reverse ys). inl (sym (reverse-reverse xs) ∙ ap reverse same ∙ reverse-reverse ys))
      (λ (apart : ComesRestedBefore s.road rest (reverse xs) (reverse ys) ⊎ ComesRestedBefore s.road rest (reverse ys) (reverse xs)). inr apart)
      (either (reverse xs) (reverse ys) p q (leads_back s until xs p q one) (leads_back s until ys p q two))
