-- Prunable positions stay so: later, at a larger cost, over lawful steps, and by better pairs.
use Rattle.std.proofs.Common.{◌≡◌, inl, inr, ⊎_elim, ℕ, ◌+◌, ◌≤◌, ◌<◌, Option, Some, None, List, refl, sym, ◌∙◌, ap, subst, arith}
use Rattle.route_base.specs.Itinerary.{Position, Step, drive, wait, Moves}
use Rattle.route_base.specs.Relaxing.{HasPair, IsDominatedOrLate, AreBounds}
use Rattle.route_base.specs.declared.types.Bound.{Bound}
use Rattle.route_base.specs.declared.types.Pair.{Pair}
use Rattle.propagation.specs.Inside.Invariants.{IsPrunable, IsWorseOrLate, Task, point}
use Rattle.propagation.specs.Inside.Pairs.{AreBorders, HasBetter, IsBetter}

pub better_on : (p : Pair) (t x t' x' : ℕ) → t ≤ t' → x ≤ x' → IsBetter p t x → IsBetter p t' x'
better_on p t x t' x' later dearer h = record {
  arrival = omega (arith, later, h.arrival);
  cost = omega (arith, dearer, h.cost);
  other = ⊎_elim
      (λ (early : p.arrival < t). inl (omega (arith, later, early)))
      (λ (cheap : p.cost < x). inr (omega (arith, dearer, cheap)))
      h.other;
}

pub has_better_on : (pairs : List Pair) (t x t' x' : ℕ) → t ≤ t' → x ≤ x' → HasBetter pairs t x → HasBetter pairs t' x'
has_better_on pairs t x t' x' later dearer h = record { pair = h.pair; is_one = h.is_one; better = better_on h.pair t x t' x' later dearer h.better }

-- what is no worse is better than what is worse
pub has_better_kept : (old new : List Pair) (t x : ℕ) → ((u y : ℕ) → HasPair old u y → HasPair new u y) → HasBetter old t x → HasBetter new t x
has_better_kept old new t x kept h =
    let n = kept h.pair.arrival h.pair.cost (record { pair = h.pair; is_one = h.is_one; arrival = omega arith; cost = omega arith }) in
    let own : IsBetter n.pair t x = record {
      arrival = omega (arith, n.arrival, h.better.arrival);
      cost = omega (arith, n.cost, h.better.cost);
      other = ⊎_elim
          (λ (early : h.pair.arrival < t). inl (omega (arith, n.arrival, early)))
          (λ (cheap : h.pair.cost < x). inr (omega (arith, n.cost, cheap)))
          h.better.other;
    } in
    record { pair = n.pair; is_one = n.is_one; better = own }

-- what the borders dominate is worse, and the other way round
module _ (until : ℕ) (pairs borders : List Pair) (b : Bound) (p : Position) (are : AreBorders pairs borders) where
  pub worse_by_borders : IsDominatedOrLate until borders (Some b) p → IsWorseOrLate until pairs (Some b) p
  worse_by_borders h = ⊎_elim
      (λ (late : until < p.minute + b.minutes). inl late)
      (λ (had : HasPair borders (p.minute + b.minutes) (p.cost + b.cost)). inr ((are.each _ _).0 had))
      h

  pub by_worse : IsWorseOrLate until pairs (Some b) p → IsDominatedOrLate until borders (Some b) p
  by_worse h = ⊎_elim
      (λ (late : until < p.minute + b.minutes). inl late)
      (λ (had : HasBetter pairs (p.minute + b.minutes) (p.cost + b.cost)). inr ((are.each _ _).1 had))
      h

-- what is worse or late stays so from a bound b to a bound h that is nearer by a step
worse_goes : (until : ℕ) (pairs : List Pair) (o o' : Option Bound) (p q : Position)
    → ((h : Bound) → o' ≡ Some h → (b : Bound) × (o ≡ Some b) × (p.minute + b.minutes ≤ q.minute + h.minutes) × (p.cost + b.cost ≤ q.cost + h.cost))
    → IsWorseOrLate until pairs o p → IsWorseOrLate until pairs o' q
worse_goes until pairs o None p q nearer h = tt
worse_goes until pairs o (Some h') p q nearer h =
    let n = nearer h' refl in
    let own : IsWorseOrLate until pairs (Some n.0) p = subst (λ (w : Option Bound). IsWorseOrLate until pairs w p) n.1 h in
    ⊎_elim
    (λ (late : until < p.minute + n.0.minutes). inl (omega (arith, late, n.2)))
    (λ (had : HasBetter pairs (p.minute + n.0.minutes) (p.cost + n.0.cost)). inr (has_better_on pairs _ _ _ _ n.2 n.3 had))
    own

module _ (k : Task) where
  pub prunable_kept : (old new : List Pair) (p : Position) → ((t x : ℕ) → HasPair old t x → HasPair new t x) → IsPrunable k old p → IsPrunable k new p
  prunable_kept old new p better = by (k.bounds p.node)
    where
      by : (o : Option Bound) → IsWorseOrLate k.request.until old o p → IsWorseOrLate k.request.until new o p
      by None h = tt
      by (Some b) h = ⊎_elim
          (λ (late : k.request.until < p.minute + b.minutes). inl late)
          (λ (had : HasBetter old (p.minute + b.minutes) (p.cost + b.cost)). inr (has_better_kept old new _ _ better had))
          h

  -- what is prunable is dominated or late
  pub prunable_dominated : (pairs : List Pair) (p : Position) → IsPrunable k pairs p → IsDominatedOrLate k.request.until pairs (k.bounds p.node) p
  prunable_dominated pairs p = by (k.bounds p.node)
    where
      by : (o : Option Bound) → IsWorseOrLate k.request.until pairs o p → IsDominatedOrLate k.request.until pairs o p
      by None h = tt
      by (Some b) h = ⊎_elim
          (λ (late : k.request.until < p.minute + b.minutes). inl late)
          (λ (had : HasBetter pairs (p.minute + b.minutes) (p.cost + b.cost)).
          inr (record { pair = had.pair; is_one = had.is_one; arrival = had.better.arrival; cost = had.better.cost }))
          h

  -- what costs no less than a pair, and is later, is prunable
  pub prunable_after : (pairs : List Pair) (t x : ℕ) (p : Position) → HasPair pairs t x → t < p.minute → x ≤ p.cost → IsPrunable k pairs p
  prunable_after pairs t x p had later dearer = by (k.bounds p.node)
    where
      by : (o : Option Bound) → IsWorseOrLate k.request.until pairs o p
      by None = tt
      by (Some b) = inr (record {
        pair = had.pair;
        is_one = had.is_one;
        better = record {
          arrival = omega (arith, had.arrival, later);
          cost = omega (arith, had.cost, dearer);
          other = inl (omega (arith, had.arrival, later));
        };
      })

  module _ (pairs : List Pair) where
    pub prunable_dearer : (h t x y : ℕ) → x ≤ y → IsPrunable k pairs (point h t x) → IsPrunable k pairs (point h t y)
    prunable_dearer h t x y le = worse_goes k.request.until pairs (k.bounds h) (k.bounds h) (point h t x) (point h t y)
        (λ b is. (b, is, omega arith, omega (arith, le)))

    -- what is prunable stays so over lawful steps
    pub prunable_moves : AreBounds k.setting k.request.goal.0 k.bounds → (x : Step) (p q : Position) → Moves k.setting k.request.until x p q
        → IsPrunable k pairs p → IsPrunable k pairs q
    prunable_moves bound (drive a) p q move = worse_goes k.request.until pairs (k.bounds p.node) (k.bounds q.node) p q
        (λ h is. let e = bound.each a move.road h move.is (ap k.bounds (sym move.node) ∙ is) in
        (e.0, ap k.bounds (sym move.tail) ∙ e.1, omega (arith, e.2.minutes, move.minute), omega (arith, e.2.cost, move.cost)))
    prunable_moves bound wait p q move = worse_goes k.request.until pairs (k.bounds p.node) (k.bounds q.node) p q
        (λ h is. (h, ap k.bounds (sym move.node) ∙ is, omega (arith, move.minute), omega (arith, move.cost)))
