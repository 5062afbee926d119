-- Tidy legs of tours that grow at their end.
use Rattle.std.proofs.Common.{◌≡◌, ◌≢◌, ℕ, ◌+◌, ◌≤◌, List, [], ◌∷◌, ◌++◌, length, replicate, refl, sym, ◌∙◌, ap, arith, append_assoc, append-nil, length-append}
use Rattle.std.proofs.lemmas.List.{replicate-append-replicate, length-replicate}
use Rattle.route_base.specs.Itinerary.{wait}
use Rattle.stop_tour.specs.Tours.{TourStep, go, tour_steps_of, tour_steps_of_leg, HasNoEmptyTourWait, HasNoNeighbouringTourWaits, StartsWithoutWait}
use Rattle.stop_tour.specs.declared.stops.TourLeg.{TourLeg}
use Rattle.stop_tour.specs.declared.stops.TourLeg.TheVariants.{Drive, Wait, Serve}
use Rattle.rested_tours.specs.Inside.TidyTours.{IsTidyTour}

-- the leg is no wait
abbrev pub IsNoWait : TourLeg → Type 0
IsNoWait leg = (k : ℕ) → leg ≢ Wait k

pub tour_steps_push : (xs : List TourLeg) (x : TourLeg) → tour_steps_of (xs ++ x ∷ []) ≡ tour_steps_of xs ++ tour_steps_of_leg x
tour_steps_push [] x = append-nil (tour_steps_of_leg x)
tour_steps_push (y ∷ xs) x = ap (λ (w : List TourStep). tour_steps_of_leg y ++ w) (tour_steps_push xs x)
    ∙ sym (append_assoc (tour_steps_of_leg y) (tour_steps_of xs) (tour_steps_of_leg x))

no_empty_push : (xs : List TourLeg) (x : TourLeg) → x ≢ Wait 0 → HasNoEmptyTourWait xs → HasNoEmptyTourWait (xs ++ x ∷ [])
no_empty_push [] x some tidy = (some, tt)
no_empty_push (y ∷ xs) x some tidy = (tidy.0, no_empty_push xs x some tidy.1)

no_empty_front : (xs : List TourLeg) (x : TourLeg) → HasNoEmptyTourWait (xs ++ x ∷ []) → HasNoEmptyTourWait xs
no_empty_front [] x tidy = tt
no_empty_front (y ∷ xs) x tidy = (tidy.0, no_empty_front xs x tidy.1)

-- a wait of some minutes is no empty one
some_wait : (k : ℕ) → 1 ≤ k → Wait k ≢ Wait 0
some_wait k some same = let e : k ≡ 0 = cc in omega (arith, e, some)

-- a leg that is no wait, at the end
starts_push : (xs : List TourLeg) (x : TourLeg) → IsNoWait x → StartsWithoutWait xs → StartsWithoutWait (xs ++ x ∷ [])
starts_push [] x other starts = other
starts_push (y ∷ xs) x other starts = starts

apart_one : (x : TourLeg) → IsNoWait x → HasNoNeighbouringTourWaits (x ∷ [])
apart_one (Drive a) other = tt
apart_one (Wait k) other = absurd (other k refl)
apart_one (Serve i) other = tt

apart_push : (xs : List TourLeg) (x : TourLeg) → IsNoWait x → HasNoNeighbouringTourWaits xs → HasNoNeighbouringTourWaits (xs ++ x ∷ [])
apart_push [] x other apart = apart_one x other
apart_push (Drive a ∷ xs) x other apart = apart_push xs x other apart
apart_push (Wait k ∷ xs) x other apart = (starts_push xs x other apart.0, apart_push xs x other apart.1)
apart_push (Serve i ∷ xs) x other apart = apart_push xs x other apart

-- a wait of other minutes at the end
starts_wait : (xs : List TourLeg) (k m : ℕ) → StartsWithoutWait (xs ++ Wait k ∷ []) → StartsWithoutWait (xs ++ Wait m ∷ [])
starts_wait [] k m starts = absurd (starts k refl)
starts_wait (y ∷ xs) k m starts = starts

apart_wait : (xs : List TourLeg) (k m : ℕ) → HasNoNeighbouringTourWaits (xs ++ Wait k ∷ []) → HasNoNeighbouringTourWaits (xs ++ Wait m ∷ [])
apart_wait [] k m apart = (tt, tt)
apart_wait (Drive a ∷ xs) k m apart = apart_wait xs k m apart
apart_wait (Wait j ∷ xs) k m apart = (starts_wait xs k m apart.0, apart_wait xs k m apart.1)
apart_wait (Serve i ∷ xs) k m apart = apart_wait xs k m apart

-- a wait behind a leg that is none
starts_longer : (xs : List TourLeg) (x y : TourLeg) → StartsWithoutWait (xs ++ x ∷ []) → StartsWithoutWait ((xs ++ x ∷ []) ++ y ∷ [])
starts_longer [] x y starts = starts
starts_longer (z ∷ xs) x y starts = starts

apart_two : (x : TourLeg) (m : ℕ) → IsNoWait x → HasNoNeighbouringTourWaits (x ∷ Wait m ∷ [])
apart_two (Drive a) m other = (tt, tt)
apart_two (Wait k) m other = absurd (other k refl)
apart_two (Serve i) m other = (tt, tt)

apart_after : (xs : List TourLeg) (x : TourLeg) (m : ℕ) → IsNoWait x → HasNoNeighbouringTourWaits (xs ++ x ∷ [])
    → HasNoNeighbouringTourWaits ((xs ++ x ∷ []) ++ Wait m ∷ [])
apart_after [] x m other apart = apart_two x m other
apart_after (Drive a ∷ xs) x m other apart = apart_after xs x m other apart
apart_after (Wait j ∷ xs) x m other apart = (starts_longer xs x (Wait m) apart.0, apart_after xs x m other apart.1)
apart_after (Serve i ∷ xs) x m other apart = apart_after xs x m other apart

pub tidy_push : (xs : List TourLeg) (x : TourLeg) → IsNoWait x → IsTidyTour xs → IsTidyTour (xs ++ x ∷ [])
tidy_push xs x other tidy = record {
  no_empty_wait = no_empty_push xs x (other 0) tidy.no_empty_wait;
  apart = apart_push xs x other tidy.apart;
}

pub tidy_wait : (xs : List TourLeg) (k m : ℕ) → 1 ≤ m → IsTidyTour (xs ++ Wait k ∷ []) → IsTidyTour (xs ++ Wait m ∷ [])
tidy_wait xs k m some tidy = record {
  no_empty_wait = no_empty_push xs (Wait m) (some_wait m some) (no_empty_front xs (Wait k) tidy.no_empty_wait);
  apart = apart_wait xs k m tidy.apart;
}

pub tidy_after : (xs : List TourLeg) (x : TourLeg) (m : ℕ) → IsNoWait x → 1 ≤ m → IsTidyTour (xs ++ x ∷ []) → IsTidyTour ((xs ++ x ∷ []) ++ Wait m ∷ [])
tidy_after xs x m other some tidy = record {
  no_empty_wait = no_empty_push (xs ++ x ∷ []) (Wait m) (some_wait m some) tidy.no_empty_wait;
  apart = apart_after xs x m other tidy.apart;
}

-- a wait that joins the one before it
pub tour_steps_join : (old new front : List TourLeg) (k m : ℕ) → old ≡ front ++ Wait k ∷ [] → new ≡ front ++ Wait (k + m) ∷ []
    → tour_steps_of new ≡ tour_steps_of old ++ replicate m (go wait)
tour_steps_join old new front k m was now =
    ap tour_steps_of now ∙ tour_steps_push front (Wait (k + m))
    ∙ ap (λ (w : List TourStep). tour_steps_of front ++ w) (sym (replicate-append-replicate k m (go wait)))
    ∙ sym (append_assoc (tour_steps_of front) (replicate k (go wait)) (replicate m (go wait)))
    ∙ ap (λ (w : List TourStep). w ++ replicate m (go wait)) (sym (ap tour_steps_of was ∙ tour_steps_push front (Wait k)))

pub length_join : (old front : List TourLeg) (k : ℕ) → old ≡ front ++ Wait k ∷ [] → k ≤ length (tour_steps_of old)
length_join old front k was =
    omega (
      arith,
      ap (λ (w : List TourLeg). length (tour_steps_of w)) was,
      ap (λ (w : List TourStep). length w) (tour_steps_push front (Wait k)),
      length-append (tour_steps_of front) (replicate k (go wait)),
      length-replicate k (go wait),
    )
