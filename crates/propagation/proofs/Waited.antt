-- The costs that waits from given costs lead to, as the least of each minute.
use Rattle.std.proofs.Common.{◌≡◌, ⊎_elim, ℕ, ◌+◌, ◌-◌, ◌*◌, ◌≤◌, ◌<◌, Bool, true, false, Option, Some, None, List, refl, sym, ◌∙◌, ap, arith}
use Rattle.std.proofs.lemmas.Bool.{cases_lt}
use Rattle.route_base.specs.Runs.{any_has}
use Rattle.route_base.specs.declared.types.Run.{Run}
use Rattle.function_merge.specs.Waits.{IsAllowed, IsLeastWait}
use Rattle.propagation.specs.Inside.EntrySets.{AreEntries}
use Rattle.propagation.specs.Inside.Offers.{IsOpenUntil, IsWaited}

-- a wait of a minute can begin at the entries for one minute, and at no other minute
module _ (shut : List Run) (until : ℕ) (set : List Run) (entries : AreEntries shut until 1 set) where
  pub open_only : (u : ℕ) → any_has set u ≡ true → any_has shut u ≡ false
  open_only u has = let entry = (entries u).0 has in entry.free u (omega arith) (omega arith)

  pub open_every : (u : ℕ) → u < until → any_has shut u ≡ false → any_has set u ≡ true
  open_every u early free = (entries u).1 (record {
    begins = omega arith;
    ends = omega (arith, early);
    free = λ w from upto. ap (any_has shut) (let e : w ≡ u = omega (arith, from, upto) in e) ∙ free;
  })

module _ (f g : ℕ → Option ℕ) (allowed shut : ℕ → Bool) (weight until : ℕ) (only : (u : ℕ) → allowed u ≡ true → shut u ≡ false)
    (every : (u : ℕ) → u < until → shut u ≡ false → allowed u ≡ true)
    (values : (t : ℕ) → t ≤ until → IsLeastWait f allowed weight t (g t)) (ended : (t : ℕ) → until < t → g t ≡ None) where
  all_allowed : (s t : ℕ) → t ≤ until → IsOpenUntil shut s t → IsAllowed allowed s t
  all_allowed s t upto opens u from early = every u (omega (arith, early, upto)) (opens u from early)

  pub waited_is : IsWaited f g shut weight until
  waited_is = record {
    found = λ t x is. ⊎_elim
        (λ (late : until < t). let bad : None ≡ Some x = sym (ended t late) ∙ is in cc)
        (λ (early : t ≤ until). let from = (values t early).reached x is in
        (early, from.0, from.1, from.2, (λ u after before. only u (from.3 u after before)), from.4, from.5))
        (cases_lt until t);
    least = λ s y t is le late opens. by (g t) (g t) refl s y t is le late opens refl;
  }
    where
      by : (o o' : Option ℕ) → o ≡ o' → (s y t : ℕ) → f s ≡ Some y → s ≤ t → t ≤ until → IsOpenUntil shut s t → g t ≡ o
          → (x : ℕ) × (g t ≡ Some x) × (x ≤ y + weight * (t - s))
      by o None same s y t is le late opens there =
          let bad : None ≡ Some y = sym ((values t late).none (there ∙ same) s le (all_allowed s t late opens)) ∙ is in cc
      by o (Some x) same s y t is le late opens there =
          (x, there ∙ same, (values t late).least x (there ∙ same) s y le (all_allowed s t late opens) is)
