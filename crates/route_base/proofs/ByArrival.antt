-- Pairs found by a binary search in their arrivals.
use Rattle.std.proofs.Common.{◌≡◌, ⊎_elim, ℕ, ◌-◌, ◌≤◌, ◌<◌, true, false, leb, List, length, get_or, ◌∙◌, ap, arith}
use Rattle.std.specs.List.{AllWithin}
use Rattle.std.specs.List.Sorted.{IsNonDecreasingBy}
use Rattle.std.proofs.lemmas.List.{get_or_default}
use Rattle.std.proofs.lemmas.Bool.{cases_lt, cases_eq, leb-true, leb-false}
use Rattle.route_base.specs.Front.{RiseAndFall}
use Rattle.route_base.specs.Relaxing.{HasPair}
use Rattle.route_base.specs.declared.types.Pair.{Pair}

module _ (pairs : List Pair) (trade : RiseAndFall pairs) where
  pub arrivals_rise : IsNonDecreasingBy (λ p. p.arrival) pairs
  arrivals_rise i j d le within =
      ⊎_elim
      (λ (same : i ≡ j). omega (arith, ap (λ n. (get_or pairs n d).arrival) same))
      (λ (other : i ≡ j → ⊥). (let far = trade i j d (omega (arith, le, other)) within in omega (arith, far.0)))
      (cases_eq i j)

  module _ (t i : ℕ) (before : AllWithin (λ p. leb p.arrival t ≡ true) pairs 0 i)
      (after : AllWithin (λ p. leb p.arrival t ≡ false) pairs i (length pairs)) where
    -- a pair that arrives by t stands before the place
    pub is_before : (x : ℕ) → (h : HasPair pairs t x) → h.is_one.0 < i
    is_before x h =
        ⊎_elim
        (λ (early : h.is_one.0 < i). early)
        (λ (late : i ≤ h.is_one.0).
        (let over = leb-false _ _ (after h.is_one.0 h.pair late h.is_one.1) in
        absurd (omega (arith, over, ap (λ (p : Pair). p.arrival) h.is_one.2, h.arrival))))
        (cases_lt h.is_one.0 i)

    -- the last of those is the cheapest
    pub last_has : (d : Pair) (x : ℕ) → 1 ≤ i → i ≤ length pairs → (get_or pairs (i - 1) d).cost ≤ x → HasPair pairs t x
    last_has d x some within cheap = record {
      pair = get_or pairs (i - 1) d;
      is_one = (i - 1, omega (arith, some, within), get_or_default pairs (i - 1) (get_or pairs (i - 1) d) d (omega (arith, some, within)));
      arrival = leb-true _ _ (before (i - 1) d (omega arith) (omega (arith, some)));
      cost = cheap;
    }

    pub last_is_least : (d : Pair) (x : ℕ) → 1 ≤ i → i ≤ length pairs → HasPair pairs t x → (get_or pairs (i - 1) d).cost ≤ x
    last_is_least d x some within h =
        let early = is_before x h in
        let at : get_or pairs h.is_one.0 d ≡ h.pair = get_or_default pairs h.is_one.0 d h.pair h.is_one.1 ∙ h.is_one.2 in
        let cost = ap (λ (p : Pair). p.cost) at in
        ⊎_elim
        (λ (same : h.is_one.0 ≡ i - 1). omega (arith, ap (λ n. (get_or pairs n d).cost) same, cost, h.cost))
        (λ (other : h.is_one.0 ≡ i - 1 → ⊥). (let far = trade h.is_one.0 (i - 1) d (omega (arith, early, other)) (omega (arith, some, within))
        in omega (arith, far.1, cost, h.cost)))
        (cases_eq h.is_one.0 (i - 1))
