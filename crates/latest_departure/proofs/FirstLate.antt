-- The gate is the last of all steps, so that of two late itineraries behind it the order is that of their steps from the beginning.
use Rattle.std.proofs.Common.{◌≡◌, ◌⊎◌, inl, inr, ⊎_elim, ℕ, ◌+◌, ◌≤◌, Some, List, [], ◌∷◌, ◌++◌, length, replicate, refl, sym, ◌∙◌, ap, arith, append_assoc}
use Rattle.std.specs.Prelude.{reverse}
use Rattle.std.proofs.lemmas.List.{reverse-append}
use Rattle.route_base.specs.Setting.{Road}
use Rattle.route_base.specs.Itinerary.{Position, Step, drive, wait, Walks}
use Rattle.route_base.specs.FirstItinerary.{ComesBefore}
use Rattle.route_base.specs.Net.{Net, setting_of, at_number, road_of}
use Rattle.route_base.proofs.Logic.{map_some}
use Rattle.route_base.proofs.Numbered.{number_within}
use Rattle.latest_departure.specs.Inside.Mirror.{GoesOnBefore}
use Rattle.latest_departure.specs.LateFront.{IsListedBefore}
use Rattle.tidy_legs.proofs.TurnedLegs.{waits_reversed}

-- waits and a drive before other steps, in the other order
pub behind_others : (k a : ℕ) (xs : List Step) → reverse (replicate k wait ++ drive a ∷ xs) ≡ reverse xs ++ drive a ∷ replicate k wait
behind_others k a xs =
    reverse-append (replicate k wait) (drive a ∷ xs) ∙ ap (λ (w : List Step). reverse (drive a ∷ xs) ++ w) (waits_reversed k)
    ∙ ap (λ (w : List Step). w ++ replicate k wait) (reverse-append (drive a ∷ []) xs)
    ∙ append_assoc (reverse xs) (drive a ∷ []) (replicate k wait)

-- what is a beginning comes before the whole, or is it
pub beginning : (ys ws : List Step) → (ys ++ ws ≡ ys) ⊎ IsListedBefore ys (ys ++ ws)
beginning [] [] = inl refl
beginning [] (w ∷ ws) = inr tt
beginning (y ∷ ys) ws = ⊎_elim
    (λ (same : ys ++ ws ≡ ys). inl (ap (λ (l : List Step). y ∷ l) same))
    (λ (before : IsListedBefore ys (ys ++ ws)). inr (inr (refl, before)))
    (beginning ys ws)

-- another list is the beginning of these steps, of which some are left
pub record IsBeginning (ys zs : List Step) : Type 0 where
  pub step : Step
  pub left : List Step
  pub is : ys ≡ zs ++ step ∷ left

-- a list that comes behind steps that go on is their beginning, or comes behind their beginning, or has a beginning of that
pub behind_beginning : (ys ws zs : List Step) → GoesOnBefore (ys ++ ws) zs → ((zs ≡ ys) ⊎ IsListedBefore ys zs) ⊎ IsBeginning ys zs
behind_beginning [] ws [] before = inl (inl refl)
behind_beginning [] ws (z ∷ zs) before = inl (inr tt)
behind_beginning (y ∷ ys) ws [] before = inr (record { step = y; left = ys; is = refl })
behind_beginning (y ∷ ys) ws (z ∷ zs) (inl less) = inl (inr (inl less))
behind_beginning (y ∷ ys) ws (z ∷ zs) (inr more) = ⊎_elim
    (λ (fine : (zs ≡ ys) ⊎ IsListedBefore ys zs). inl (⊎_elim
    (λ (same : zs ≡ ys). inl (λ i. sym more.0 i ∷ same i))
    (λ (before : IsListedBefore ys zs). inr (inr (more.0, before)))
    fine))
    (λ (part : IsBeginning ys zs). inr (record { step = part.step; left = part.left; is = λ i. more.0 i ∷ part.is i }))
    (behind_beginning ys ws zs more.1)

module _ (net : Net) (until : ℕ) where
  within : (a : ℕ) (road : Road) → (setting_of net).road a ≡ Some road → a ≤ length net.arcs
  within a road is =
      let found = map_some (at_number net.arcs a) road_of road is in
      (number_within net.arcs a found.0 found.1).1

  -- lists before the gate, of which the second is a walk of the net
  pub gate_last : (xs ys us vs : List Step) (p q : Position) → Walks (setting_of net) until ys p q
      → ComesBefore (xs ++ drive (length net.arcs + 1) ∷ us) (ys ++ drive (length net.arcs + 1) ∷ vs) → (ys ≡ xs) ⊎ GoesOnBefore xs ys
  gate_last [] [] us vs p q walk before = inl refl
  gate_last (x ∷ xs) [] us vs p q walk before = inr tt
  gate_last [] (wait ∷ ys) us vs p q walk (inl less) = absurd less
  gate_last [] (wait ∷ ys) us vs p q walk (inr more) = let same = more.0 in absurd (cc)
  gate_last [] (drive b ∷ ys) us vs p q walk (inl less) = absurd (omega (arith, less, within b walk.1.road walk.1.is))
  gate_last [] (drive b ∷ ys) us vs p q walk (inr more) =
      let same : drive (length net.arcs + 1) ≡ drive b = more.0 in
      let number : length net.arcs + 1 ≡ b = cc in
      absurd (omega (arith, number, within b walk.1.road walk.1.is))
  gate_last (x ∷ xs) (y ∷ ys) us vs p q walk (inl less) = inr (inl less)
  gate_last (x ∷ xs) (y ∷ ys) us vs p q walk (inr more) = ⊎_elim
      (λ (same : ys ≡ xs). inl (λ i. sym more.0 i ∷ same i))
      (λ (before : GoesOnBefore xs ys). inr (inr (more.0, before)))
      (gate_last xs ys us vs walk.0 q walk.2 more.1)
