-- Tidy legs that grow at their end.
use Rattle.std.proofs.Common.{◌≡◌, ℕ, ◌+◌, ◌≤◌, List, [], ◌∷◌, ◌++◌, length, refl, sym, ◌∙◌, ap, arith, append_assoc, length-append}
use Rattle.std.proofs.lemmas.List.{replicate-append-replicate, length-replicate}
use Rattle.route_base.specs.Itinerary.{Step, wait}
use Rattle.route_base.specs.Legs.{steps_of, steps_of_leg, HasNoEmptyWait, HasNoNeighbouringWaits, DrivesFirst}
use Rattle.route_base.specs.declared.types.Leg.{Leg}
use Rattle.route_base.specs.declared.types.Leg.TheVariants.{Drive, Wait}
use Rattle.route_base.specs.declared.types.ArcId.{ArcId}
use Rattle.route_base.proofs.LegLists.{steps_of-push, no_empty-push, some_wait}
use Rattle.tidy_legs.specs.Tidiness.{IsTidy}

pub waits-add : (k m : ℕ) → steps_of_leg (Wait (k + m)) ≡ steps_of_leg (Wait k) ++ steps_of_leg (Wait m)
waits-add k m = sym (replicate-append-replicate k m wait)

-- the last leg doesn't matter to those before it
no_empty-front : (xs : List Leg) (x : Leg) → HasNoEmptyWait (xs ++ x ∷ []) → HasNoEmptyWait xs
no_empty-front [] x tidy = tt
no_empty-front (y ∷ xs) x tidy = (tidy.0, no_empty-front xs x tidy.1)

drives_first-drive : (xs : List Leg) (a : ArcId) → DrivesFirst xs → DrivesFirst (xs ++ Drive a ∷ [])
drives_first-drive [] a first = λ k same. cc
drives_first-drive (y ∷ xs) a first = first

drives_first-wait : (xs : List Leg) (k m : ℕ) → DrivesFirst (xs ++ Wait k ∷ []) → DrivesFirst (xs ++ Wait m ∷ [])
drives_first-wait [] k m first = absurd (first k refl)
drives_first-wait (y ∷ xs) k m first = first

no_neighbours-drive : (xs : List Leg) (a : ArcId) → HasNoNeighbouringWaits xs → HasNoNeighbouringWaits (xs ++ Drive a ∷ [])
no_neighbours-drive [] a tidy = tt
no_neighbours-drive (Drive b ∷ xs) a tidy = no_neighbours-drive xs a tidy
no_neighbours-drive (Wait k ∷ xs) a tidy = (drives_first-drive xs a tidy.0, no_neighbours-drive xs a tidy.1)

no_neighbours-wait : (xs : List Leg) (k m : ℕ) → HasNoNeighbouringWaits (xs ++ Wait k ∷ []) → HasNoNeighbouringWaits (xs ++ Wait m ∷ [])
no_neighbours-wait [] k m tidy = (tt, tt)
no_neighbours-wait (Drive b ∷ xs) k m tidy = no_neighbours-wait xs k m tidy
no_neighbours-wait (Wait j ∷ xs) k m tidy = (drives_first-wait xs k m tidy.0, no_neighbours-wait xs k m tidy.1)

drives_first-longer : (xs : List Leg) (a : ArcId) (m : ℕ) → DrivesFirst (xs ++ Drive a ∷ []) → DrivesFirst ((xs ++ Drive a ∷ []) ++ Wait m ∷ [])
drives_first-longer [] a m first = first
drives_first-longer (y ∷ xs) a m first = first

no_neighbours-after : (xs : List Leg) (a : ArcId) (m : ℕ) → HasNoNeighbouringWaits (xs ++ Drive a ∷ [])
    → HasNoNeighbouringWaits ((xs ++ Drive a ∷ []) ++ Wait m ∷ [])
no_neighbours-after [] a m tidy = (tt, tt)
no_neighbours-after (Drive b ∷ xs) a m tidy = no_neighbours-after xs a m tidy
no_neighbours-after (Wait j ∷ xs) a m tidy = (drives_first-longer xs a m tidy.0, no_neighbours-after xs a m tidy.1)

pub tidy-drive : (xs : List Leg) (a : ArcId) → IsTidy xs → IsTidy (xs ++ Drive a ∷ [])
tidy-drive xs a tidy = record {
  no_empty_wait = no_empty-push xs (Drive a)
      (λ same. cc) tidy.no_empty_wait;
  no_neighbours = no_neighbours-drive xs a tidy.no_neighbours;
}

pub tidy-wait : (xs : List Leg) (k m : ℕ) → 1 ≤ m → IsTidy (xs ++ Wait k ∷ []) → IsTidy (xs ++ Wait m ∷ [])
tidy-wait xs k m some tidy = record {
  no_empty_wait = no_empty-push xs (Wait m) (some_wait m some)
      (no_empty-front xs (Wait k) tidy.no_empty_wait);
  no_neighbours = no_neighbours-wait xs k m tidy.no_neighbours;
}

pub tidy-after : (xs : List Leg) (a : ArcId) (m : ℕ) → 1 ≤ m → IsTidy (xs ++ Drive a ∷ []) → IsTidy ((xs ++ Drive a ∷ []) ++ Wait m ∷ [])
tidy-after xs a m some tidy = record {
  no_empty_wait = no_empty-push (xs ++ Drive a ∷ []) (Wait m)
      (some_wait m some) tidy.no_empty_wait;
  no_neighbours = no_neighbours-after xs a m tidy.no_neighbours;
}

-- a wait that joins the one before it
pub steps-join : (old new front : List Leg) (k m : ℕ) → old ≡ front ++ Wait k ∷ [] → new ≡ front ++ Wait (k + m) ∷ []
    → steps_of new ≡ steps_of old ++ steps_of_leg (Wait m)
steps-join old new front k m was now =
    ap steps_of now ∙ steps_of-push front (Wait (k + m)) ∙ ap (λ (w : List Step). steps_of front ++ w) (waits-add k m)
    ∙ sym (append_assoc (steps_of front) (steps_of_leg (Wait k)) (steps_of_leg (Wait m)))
    ∙ ap (λ (w : List Step). w ++ steps_of_leg (Wait m)) (sym (ap steps_of was ∙ steps_of-push front (Wait k)))

pub length-join : (old front : List Leg) (k : ℕ) → old ≡ front ++ Wait k ∷ [] → k ≤ length (steps_of old)
length-join old front k was =
    omega (
      arith,
      ap (λ (w : List Leg). length (steps_of w)) was,
      ap (λ (w : List Step). length w)
          (steps_of-push front (Wait k)),
      length-append (steps_of front) (steps_of_leg (Wait k)),
      length-replicate k wait,
    )
