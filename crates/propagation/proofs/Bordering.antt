-- The borders of pairs, as pairs go in.
use Rattle.std.proofs.Common.{◌≡◌, ◌⊎◌, inl, inr, ⊎_elim, ℕ, ◌+◌, ◌≤◌, ◌<◌, List, ap, subst, arith}
use Rattle.std.specs.Prelude.{Contains}
use Rattle.route_base.specs.Relaxing.{HasPair}
use Rattle.route_base.specs.declared.types.Pair.{Pair}
use Rattle.route_base.proofs.Covering.{pair_later}
use Rattle.propagation.specs.Inside.Pairs.{AreBorders, HasBetter, IsBetter, TakesBorders, TakesPair}
use Rattle.propagation.proofs.Pruning.{has_better_kept}

-- a list that takes one more pair has it or what it had
had_or_is : (pair : Pair) (old new : List Pair) (t x : ℕ) → TakesPair pair old new → HasPair new t x
    → HasPair old t x ⊎ ((pair.arrival ≤ t) × (pair.cost ≤ x))
had_or_is pair old new t x takes had = ⊎_elim
    (λ (was : Contains old had.pair). inl (record { pair = had.pair; is_one = was; arrival = had.arrival; cost = had.cost }))
    (λ (same : had.pair ≡ pair). inr (
      omega (arith, ap (λ (w : Pair). w.arrival) same, had.arrival),
      omega (arith, ap (λ (w : Pair). w.cost) same, had.cost),
    ))
    (takes.each had.pair had.is_one)

-- the two borders of a pair
pub borders_taken : (pair dearer later : Pair) (old between new : List Pair) → dearer.arrival ≡ pair.arrival → dearer.cost ≡ pair.cost + 1
    → later.arrival ≡ pair.arrival + 1 → later.cost ≡ pair.cost → TakesPair dearer old between → TakesPair later between new → TakesBorders pair old new
borders_taken pair dearer later old between new at more after same one two = record {
  trade = two.trade;
  each = λ t x. (
    (λ had. ⊎_elim
        (λ (was : HasPair between t x). ⊎_elim
        (λ (first : HasPair old t x). inl first)
        (λ (le : (dearer.arrival ≤ t) × (dearer.cost ≤ x)).
        let own : IsBetter pair t x = record {
          arrival = omega (arith, le.0, at);
          cost = omega (arith, le.1, more);
          other = inr (omega (arith, le.1, more));
        } in
        inr own)
        (had_or_is dearer old between t x one was))
        (λ (le : (later.arrival ≤ t) × (later.cost ≤ x)).
        let own : IsBetter pair t x = record {
          arrival = omega (arith, le.0, after);
          cost = omega (arith, le.1, same);
          other = inl (omega (arith, le.0, after));
        } in
        inr own)
        (had_or_is later between new t x two had)),
    (λ either. ⊎_elim
        (λ (was : HasPair old t x). two.kept t x (one.kept t x was))
        (λ (better : IsBetter pair t x). ⊎_elim
        (λ (early : pair.arrival < t). pair_later new later.arrival later.cost t x (omega (arith, early, after)) (omega (arith, better.cost, same)) two.here)
        (λ (cheap : pair.cost < x). two.kept t x
        (pair_later between dearer.arrival dearer.cost t x (omega (arith, better.arrival, at)) (omega (arith, cheap, more)) one.here))
        better.other)
        either),
  );
}

-- the borders take those of a pair that the pairs take
pub borders_kept : (pair : Pair) (old new borders more : List Pair) → AreBorders old borders → TakesPair pair old new → TakesBorders pair borders more
    → AreBorders new more
borders_kept pair old new borders more are takes grows = record {
  trade = grows.trade;
  each = λ t x. (
    (λ had. ⊎_elim
        (λ (was : HasPair borders t x). has_better_kept old new t x takes.kept ((are.each t x).0 was))
        (λ (better : IsBetter pair t x). by_pair t x better)
        ((grows.each t x).0 had)),
    (λ had. ⊎_elim
        (λ (was : Contains old had.pair).
        (grows.each t x).1 (inl ((are.each t x).1 (record { pair = had.pair; is_one = was; better = had.better }))))
        (λ (same : had.pair ≡ pair). (grows.each t x).1 (inr (subst (λ w. IsBetter w t x) same had.better)))
        (takes.each had.pair had.is_one)),
  );
}
  where
    by_pair : (t x : ℕ) → IsBetter pair t x → HasBetter new t x
    by_pair t x better =
        let h = takes.here in
        let own : IsBetter h.pair t x = record {
          arrival = omega (arith, h.arrival, better.arrival);
          cost = omega (arith, h.cost, better.cost);
          other = ⊎_elim
              (λ (early : pair.arrival < t). inl (omega (arith, h.arrival, early)))
              (λ (cheap : pair.cost < x). inr (omega (arith, h.cost, cheap)))
              better.other;
        } in
        record { pair = h.pair; is_one = h.is_one; better = own }
