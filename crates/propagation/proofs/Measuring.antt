-- Each turn lowers what is left to do.
use Rattle.std.proofs.Common.{◌≡◌, ◌⊎◌, ⊎_elim, ℕ, suc, ◌+◌, ◌*◌, ◌≤◌, ◌<◌, Bool, true, false, Option, Some, None, refl, ap, arith}
use Rattle.route_base.specs.Itinerary.{Position}
use Rattle.route_base.specs.Relaxing.{HasWithin}
use Rattle.propagation.specs.Inside.Invariants.{IsLabel, IsLower, Progress, point}
use Rattle.propagation.specs.Inside.Measures.{bit, height, rank, work}
use Rattle.potentials.specs.Inside.Totals.{total}
use Rattle.potentials.proofs.Totals.{total_le, total_one}
use Rattle.route_base.specs.declared.limits.TheConstants.{HIGHEST_COST}

total_lt : (n j : ℕ) (f g : ℕ → ℕ) → ((i : ℕ) → i < n → f i ≤ g i) → j < n → f j < g j → total n f < total n g
total_lt n j f g le below lt = omega (arith, total_one n j f g le below (omega (arith, lt)))

rank_falls : (was now : Option ℕ) (pended pends : Bool) → ((x : ℕ) → was ≡ Some x → (y : ℕ) × (now ≡ Some y) × (y ≤ x))
    → ((x : ℕ) → now ≡ Some x → x ≤ HIGHEST_COST)
    → (pends ≡ true → (pended ≡ true) ⊎ IsLower now was) → 2 * height now + bit pends ≤ 2 * height was + bit pended
rank_falls None None true true less fits cause = omega arith
rank_falls None None false true less fits cause = ⊎_elim (λ (bad : false ≡ true). cc) (λ (bad : ⊥). absurd bad) (cause refl)
rank_falls None None pended false less fits cause = omega arith
rank_falls None (Some y) pended true less fits cause = omega (arith, fits y refl)
rank_falls None (Some y) pended false less fits cause = omega (arith, fits y refl)
rank_falls (Some x) None pended pends less fits cause = let h = less x refl in cc
rank_falls (Some x) (Some y) pended false less fits cause = let h = less x refl in let e : y ≡ h.0 = cc in omega (arith, e, h.2)
rank_falls (Some x) (Some y) true true less fits cause = let h = less x refl in let e : y ≡ h.0 = cc in omega (arith, e, h.2)
rank_falls (Some x) (Some y) false true less fits cause = ⊎_elim (λ (bad : false ≡ true). cc) (λ (low : y < x). omega arith) (cause refl)

bit_le : (a b : Bool) → (a ≡ true → b ≡ true) → bit a ≤ bit b
bit_le false b h = omega arith
bit_le true true h = omega arith
bit_le true false h = let bad : false ≡ true = h refl in cc

module _ (nodes until : ℕ) (old new : Progress) where
  -- where costs only fall, and what becomes pending has fallen, no more is left to do
  pub improves_falls : ((p : Position) → IsLabel old p → HasWithin new.cost p)
      → ((v t : ℕ) → new.pending v t ≡ true → (old.pending v t ≡ true) ⊎ IsLower (new.cost v t) (old.cost v t))
      → ((v t x : ℕ) → new.cost v t ≡ Some x → x ≤ HIGHEST_COST) → work nodes until new ≤ work nodes until old
  improves_falls less cause fits = total_le (suc nodes) _ _ (λ v below. total_le (suc until) _ _ (λ t before.
      rank_falls (old.cost v t) (new.cost v t) (old.pending v t) (new.pending v t)
      (λ x is. let h = less (point v t x) is in (h.least, h.is, h.within))
      (λ x is. fits v t x is) (λ is. cause v t is)))

  -- where costs stay, nothing becomes pending and a minute is so no more, less is left to do
  pub parts_fall : ((v t : ℕ) → new.cost v t ≡ old.cost v t) → ((v t : ℕ) → new.pending v t ≡ true → old.pending v t ≡ true)
      → (v minute : ℕ) → old.pending v minute ≡ true → new.pending v minute ≡ false → v ≤ nodes → minute ≤ until
      → work nodes until new < work nodes until old
  parts_fall cost less v minute was is_no_more within early = total_lt (suc nodes) v _ _
      (λ u below. total_le (suc until) _ _ (λ t before. same u t))
      (omega (arith, within))
      (total_lt (suc until) minute _ _ (λ t before. same v t) (omega (arith, early))
      (omega (arith, ap height (cost v minute), ap bit was, ap bit is_no_more)))
    where
      same : (u t : ℕ) → rank new u t ≤ rank old u t
      same u t = omega (arith, ap height (cost u t), bit_le (new.pending u t) (old.pending u t) (less u t))
