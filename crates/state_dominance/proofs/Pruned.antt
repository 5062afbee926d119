-- What is prunable, covered or dominated stays so: over steps, for worse states, and as the search goes on.
use Rattle.std.proofs.Common.{◌≡◌, inl, inr, ⊎_elim, ℕ, ◌+◌, ◌≤◌, ◌<◌, Option, Some, None, List, refl, sym, ◌∙◌, ap, subst, arith}
use Rattle.std.proofs.lemmas.Option.{same_Some}
use Rattle.route_base.specs.Itinerary.{Position, Step, drive, wait, Moves}
use Rattle.route_base.specs.Relaxing.{HasWithin, HasPair}
use Rattle.route_base.specs.declared.types.Bound.{Bound}
use Rattle.route_base.specs.declared.types.Pair.{Pair}
use Rattle.propagation.specs.Inside.Invariants.{Progress, IsWorseOrLate, point}
use Rattle.propagation.specs.Inside.Pairs.{HasBetter, IsBetter}
use Rattle.propagation.proofs.Pruning.{has_better_kept, has_better_on}
use Rattle.state_dominance.specs.Inside.Dominance.{Task, IsNoWorseThan, IsSimulation, AreBoundsAlong, IsCovered, IsDominated, IsPrunable, IsRelaxedIn}

-- an excuse goes on from a bound to one that is nearer by a step, behind which it is late where it was so before
excuse_goes : (until until' : ℕ) (pairs : List Pair) (o o' : Option Bound) (p q : Position)
    → ((h : Bound) → o' ≡ Some h → (b : Bound) × (o ≡ Some b) × (p.minute + b.minutes ≤ q.minute + h.minutes) × (p.cost + b.cost ≤ q.cost + h.cost))
    → ((b h : Bound) → o ≡ Some b → o' ≡ Some h → until < p.minute + b.minutes → until' < q.minute + h.minutes)
    → IsWorseOrLate until pairs o p → IsWorseOrLate until' pairs o' q
excuse_goes until until' pairs o None p q nearer later h = tt
excuse_goes until until' pairs o (Some h') p q nearer later h =
    let n = nearer h' refl in
    let own : IsWorseOrLate until pairs (Some n.0) p = subst (λ (w : Option Bound). IsWorseOrLate until pairs w p) n.1 h in
    ⊎_elim
    (λ (late : until < p.minute + n.0.minutes). inl (later n.0 h' n.1 refl late))
    (λ (had : HasBetter pairs (p.minute + n.0.minutes) (p.cost + n.0.cost)). inr (has_better_on pairs _ _ _ _ n.2 n.3 had))
    own

module _ (k : Task) where
  -- what is prunable stays so over lawful steps
  pub prunable_moves : AreBoundsAlong k → (pairs : List Pair) (x : Step) (p q : Position) → Moves k.setting k.until x p q
      → IsPrunable k pairs p → IsPrunable k pairs q
  prunable_moves bound pairs (drive a) p q move = excuse_goes (k.latest p.node) (k.latest q.node) pairs (k.bounds p.node) (k.bounds q.node) p q
      (λ h is. let e = bound.each a move.road h move.is (ap k.bounds (sym move.node) ∙ is) in
      (e.0, ap k.bounds (sym move.tail) ∙ e.1, omega (arith, e.2.minutes, move.minute), omega (arith, e.2.cost, move.cost)))
      (λ b h before behind late. bound.late a p q b h move before behind late)
  prunable_moves bound pairs wait p q move = excuse_goes (k.latest p.node) (k.latest q.node) pairs (k.bounds p.node) (k.bounds q.node) p q
      (λ h is. (h, ap k.bounds (sym move.node) ∙ is, omega (arith, move.minute), omega (arith, move.cost)))
      (λ b h before behind late.
      let same : b ≡ h = same_Some b h (sym before ∙ (ap k.bounds (sym move.node) ∙ behind)) in
      omega (arith, late, ap k.latest move.node, ap (λ (w : Bound). w.minutes) same, move.minute))

  -- and for what is no better
  pub prunable_worse : IsSimulation k → (pairs : List Pair) (p q : Position) → IsNoWorseThan k p q → IsPrunable k pairs p → IsPrunable k pairs q
  prunable_worse sim pairs p q worse = excuse_goes (k.latest p.node) (k.latest q.node) pairs (k.bounds p.node) (k.bounds q.node) p q
      (λ h is. let e = sim.bounds p.node q.node h worse.node is in
      (e.0, e.1, omega (arith, e.2, worse.minute), omega (arith, e.3, worse.cost)))
      (λ b h before behind late.
      let e = sim.bounds p.node q.node h worse.node behind in
      let same : b ≡ e.0 = same_Some b e.0 (sym before ∙ e.1) in
      omega (arith, late, sim.latest p.node q.node worse.node, ap (λ (w : Bound). w.minutes) same, e.2, worse.minute))

  -- and by better pairs
  pub prunable_kept : (old new : List Pair) (p : Position) → ((t x : ℕ) → HasPair old t x → HasPair new t x) → IsPrunable k old p → IsPrunable k new p
  prunable_kept old new p better = by (k.bounds p.node)
    where
      by : (o : Option Bound) → IsWorseOrLate (k.latest p.node) old o p → IsWorseOrLate (k.latest p.node) new o p
      by None h = tt
      by (Some b) h = ⊎_elim
          (λ (late : k.latest p.node < p.minute + b.minutes). inl late)
          (λ (had : HasBetter old (p.minute + b.minutes) (p.cost + b.cost)). inr (has_better_kept old new _ _ better had))
          h

  -- what costs no less than a pair, and is later, is prunable
  pub prunable_behind : (pairs : List Pair) (t x : ℕ) (p : Position) → HasPair pairs t x → t + 1 ≤ p.minute → x ≤ p.cost → IsPrunable k pairs p
  prunable_behind pairs t x p had later dearer = by (k.bounds p.node)
    where
      by : (o : Option Bound) → IsWorseOrLate (k.latest p.node) pairs o p
      by None = tt
      by (Some b) =
          let own : IsBetter had.pair (p.minute + b.minutes) (p.cost + b.cost) = record {
            arrival = omega (arith, had.arrival, later);
            cost = omega (arith, had.cost, dearer);
            other = inl (omega (arith, had.arrival, later));
          } in
          inr (record { pair = had.pair; is_one = had.is_one; better = own })

  -- a cost that is known within another is within a larger one
  pub within_dearer : (now : Progress) (v t x t' x' : ℕ) → t ≡ t' → x ≤ x' → HasWithin now.cost (point v t x) → HasWithin now.cost (point v t' x')
  within_dearer now v t x t' x' same le h = record {
    least = h.least;
    is = ap (λ m. now.cost v m) (sym same) ∙ h.is;
    within = omega (arith, h.within, le);
  }

  pub covered_worse : IsSimulation k → (now : Progress) (p q : Position) → IsNoWorseThan k p q → IsCovered k now p → IsCovered k now q
  covered_worse sim now p q worse h = record {
    node = h.node;
    better = sim.on h.node p.node q.node h.better worse.node;
    known = within_dearer now h.node p.minute p.cost q.minute q.cost worse.minute worse.cost h.known;
  }

  pub relaxed_worse : IsSimulation k → (now : Progress) (p q : Position) → IsNoWorseThan k p q → IsRelaxedIn k now p → IsRelaxedIn k now q
  relaxed_worse sim now p q worse landed = ⊎_elim
      (λ (h : IsCovered k now p). inl (covered_worse sim now p q worse h))
      (λ (e : IsPrunable k now.pairs p). inr (prunable_worse sim now.pairs p q worse e))
      landed

  -- what is dominated is covered
  pub dominated_covered : (now : Progress) (p : Position) → IsDominated k now p → IsCovered k now p
  dominated_covered now p h = record { node = h.node; better = h.better; known = h.known }

  -- what a lower node covers for a state that is no worse is dominated
  pub covered_dominated : IsSimulation k → (now : Progress) (p q : Position) → IsNoWorseThan k p q → p.node < q.node → IsCovered k now p → IsDominated k now q
  covered_dominated sim now p q worse less h = record {
    node = h.node;
    better = sim.on h.node p.node q.node h.better worse.node;
    other = omega (arith, less, sim.low h.node p.node h.better);
    known = within_dearer now h.node p.minute p.cost q.minute q.cost worse.minute worse.cost h.known;
  }

  -- what is dominated is so at a larger cost
  pub dominated_dearer : (now : Progress) (v t x y : ℕ) → x ≤ y → IsDominated k now (point v t x) → IsDominated k now (point v t y)
  dominated_dearer now v t x y le h = record {
    node = h.node;
    better = h.better;
    other = h.other;
    known = within_dearer now h.node t x t y refl le h.known;
  }
