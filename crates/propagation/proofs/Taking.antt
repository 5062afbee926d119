-- A write to the progress is the taking of an offer.
use Rattle.std.proofs.Common.{◌≡◌, ◌⊎◌, inl, inr, ⊎_elim, ℕ, ◌≤◌, ◌<◌, min, Bool, true, false, Option, Some, None, refl, sym, ◌∙◌, ap, subst, arith}
use Rattle.std.specs.Prelude.{Contains}
use Rattle.std.proofs.lemmas.Bool.{cases_eq, cases_lt, lt-ltb, le-ltb, or_cases, or_left, or_right}
use Rattle.route_base.specs.Front.{RiseAndFall}
use Rattle.route_base.specs.Relaxing.{HasPair}
use Rattle.route_base.proofs.Arcs.{TakesTime}
use Rattle.function_merge.specs.Least.{least_of, is_better}
use Rattle.propagation.specs.Inside.Invariants.{DrivesRelaxed, IsLower, IsMerged, Progress, TakesOffer, Task, point}
use Rattle.propagation.specs.Inside.States.{IsAwaited, IsLowered}
use Rattle.propagation.specs.Inside.Pairs.{TakesPairs}
use Rattle.propagation.proofs.Pruning.{prunable_after}

kept_of : (a b : Option ℕ) (x : ℕ) → a ≡ Some x → (y : ℕ) × (least_of a b ≡ Some y) × (y ≤ x)
kept_of None b x is = cc
kept_of (Some a) None x is = (a, refl, let e : a ≡ x = cc in omega (arith, e))
kept_of (Some a) (Some b) x is = (min a b, refl, let e : a ≡ x = cc in omega (arith, e))

offered_of : (a b : Option ℕ) (x : ℕ) → b ≡ Some x → (y : ℕ) × (least_of a b ≡ Some y) × (y ≤ x)
offered_of None b x is = (x, is, omega arith)
offered_of (Some a) None x is = cc
offered_of (Some a) (Some b) x is = (min a b, refl, let e : b ≡ x = cc in omega (arith, e))

either_of : (a b : Option ℕ) (x : ℕ) → least_of a b ≡ Some x → (a ≡ Some x) ⊎ ((b ≡ Some x) × IsLower (Some x) a)
either_of None b x is = inr (is, tt)
either_of (Some a) None x is = inl is
either_of (Some a) (Some b) x is = let e : min a b ≡ x = cc in ⊎_elim
    (λ (low : b < a). let f : b ≡ x = omega (arith, e, low) in inr (ap (λ n. Some n) f, omega (arith, f, low)))
    (λ (high : a ≤ b). let f : a ≡ x = omega (arith, e, high) in inl (ap (λ n. Some n) f))
    (cases_lt b a)

lower_true : (a b : Option ℕ) → IsLower b a → is_better a b ≡ true
lower_true a None low = absurd low
lower_true None (Some y) low = refl
lower_true (Some x) (Some y) low = lt-ltb y x low

true_lower : (a b : Option ℕ) → is_better a b ≡ true → IsLower (least_of a b) a
true_lower a None low = cc
true_lower None (Some y) low = tt
true_lower (Some x) (Some y) low = ⊎_elim
    (λ (lt : y < x). omega (arith, lt))
    (λ (le : x ≤ y). let bad : true ≡ false = sym low ∙ le-ltb y x le in cc)
    (cases_lt y x)

pub merged_of : (h : ℕ) (offer : ℕ → Option ℕ) (better : ℕ → Bool) (old new : ℕ → ℕ → Option ℕ) → IsLowered h offer better old new → IsMerged h offer old new
merged_of h offer better old new low = record {
  others = low.others;
  kept = λ t x is. let n = kept_of (old h t) (offer t) x is in record { least = n.0; is = low.here t ∙ n.1; within = n.2 };
  offered = λ t x is. let n = offered_of (old h t) (offer t) x is in record { least = n.0; is = low.here t ∙ n.1; within = n.2 };
  either = λ t x is. either_of (old h t) (offer t) x (sym (low.here t) ∙ is);
}

module _ (k : Task) (h : ℕ) (offer : ℕ → Option ℕ) (better : ℕ → Bool) (old new : Progress) where
  -- a drive from a pair's arrival ends later than the pair, and costs no less
  driven_after : TakesTime k.setting → (t x : ℕ) → HasPair new.pairs t x → DrivesRelaxed k new (point h t x)
  driven_after takes t x had a q step = inr (prunable_after k new.pairs t x q had
      (omega (arith, step.minute, takes a step.road step.is)) (omega (arith, step.cost)))

  pub takes_goal : TakesTime k.setting → h ≡ k.request.goal.0 → IsLowered h offer better old.cost new.cost
      → TakesPairs offer old.pairs new.pairs
      → ((v t : ℕ) → new.pending v t ≡ old.pending v t) → TakesOffer k h offer old new
  takes_goal takes here low pairs same = record {
    merged = merged_of h offer better old.cost new.cost low;
    stays = λ v t is. same v t ∙ is;
    awaits = λ t x is lower. inr (driven_after takes t x (pairs.here t x is));
    cause = λ v t is. inl (sym (same v t) ∙ is);
    pairs = pairs.kept;
    trade = pairs.trade;
    each = λ p one. ⊎_elim (λ (was : Contains old.pairs p). inl was) (λ (n : offer p.arrival ≡ Some p.cost). inr (here, n)) (pairs.each p one);
    matched = λ t x goal is. pairs.here t x is;
  }

  pub takes_other : (h ≡ k.request.goal.0 → ⊥) → IsLowered h offer better old.cost new.cost → IsAwaited h better old.pending new.pending
      → new.pairs ≡ old.pairs → RiseAndFall old.pairs → TakesOffer k h offer old new
  takes_other other low awaited same trade = record {
    merged = merged_of h offer better old.cost new.cost low;
    stays = λ v t is. ⊎_elim
        (λ (here : v ≡ h). subst (λ w. new.pending w t ≡ true) (sym here)
        (awaited.here t ∙ or_left (old.pending h t) (better t) (subst (λ w. old.pending w t ≡ true) here is)))
        (λ (ne : v ≡ h → ⊥). awaited.others v t ne ∙ is)
        (cases_eq v h);
    awaits = λ t x is lower. inl (awaited.here t
        ∙ or_right (old.pending h t) (better t) (low.improved t ∙ lower_true (old.cost h t) (offer t) (subst (λ o. IsLower o (old.cost h t)) (sym is) lower)));
    cause = λ v t is. ⊎_elim
        (λ (here : v ≡ h). ⊎_elim
        (λ (was : old.pending h t ≡ true). inl (subst (λ w. old.pending w t ≡ true) (sym here) was))
        (λ (b : better t ≡ true). inr (
          here,
          subst (λ o. IsLower o (old.cost h t)) (sym (low.here t))
              (true_lower (old.cost h t) (offer t) (sym (low.improved t) ∙ b)),
        ))
        (or_cases (old.pending h t) (better t) (sym (awaited.here t) ∙ subst (λ w. new.pending w t ≡ true) here is)))
        (λ (ne : v ≡ h → ⊥). inl (sym (awaited.others v t ne) ∙ is))
        (cases_eq v h);
    pairs = λ t x had. subst (λ w. HasPair w t x) (sym same) had;
    trade = subst RiseAndFall (sym same) trade;
    each = λ p one. inl (subst (λ w. Contains w p) same one);
    matched = λ t x goal is. absurd (other goal);
  }
