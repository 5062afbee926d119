-- What is offered, less what is dominated, is an offer.
use Rattle.std.proofs.Common.{◌≡◌, ◌⊎◌, inl, inr, ⊎_elim, ℕ, ◌≤◌, true, Option, Some, refl, sym, subst, arith}
use Rattle.route_base.specs.Itinerary.{Position, Waits}
use Rattle.propagation.specs.Inside.Invariants.{Progress, point, HasIn}
use Rattle.state_dominance.specs.Inside.Dominance.{Task, IsSimulation, IsCovered, IsDominated, IsPrunable, IsSearching, IsStart, ComesBy}
use Rattle.state_dominance.specs.Inside.Taking.{IsWide, IsNarrowed, IsOffer, WaitsFrom}
use Rattle.state_dominance.proofs.Pruned.{covered_dominated, prunable_worse, within_dearer}

module _ (k : Task) (now : Progress) (v h : ℕ) (part wide narrow : ℕ → Option ℕ) (sim : IsSimulation k) (facts : IsSearching k now v part)
    (all : IsWide k now h wide) (some : IsNarrowed k now h wide narrow) where
  -- a wait from what is dominated leads to what is dominated or prunable
  wait_dominated : (u y : ℕ) (e : Position) → IsDominated k now (point h u y) → Waits k.setting k.until (point h u y) e
      → IsDominated k now e ⊎ IsPrunable k now.pairs e
  wait_dominated u y e d move =
      let s = sim.waits d.node d.known.least (point h u y) e d.better d.known.within move in
      ⊎_elim
      (λ (c : IsCovered k now s.0). inl (covered_dominated k sim now s.0 e s.2 (omega (arith, s.1.node, move.node, d.other)) c))
      (λ (p : IsPrunable k now.pairs s.0). inr (prunable_worse k sim now.pairs s.0 e s.2 p))
      (facts.waits (point d.node u d.known.least) s.0 d.known.is s.1)

  -- what is dominated is so at a larger cost
  dominated_at : (p q : Position) → p.node ≡ q.node → p.minute ≡ q.minute → p.cost ≤ q.cost → IsDominated k now p → IsDominated k now q
  dominated_at p q node minute le d = record {
    node = d.node;
    better = subst (λ m. k.no_worse d.node m ≡ true) node d.better;
    other = omega (arith, d.other, node);
    known = within_dearer k now d.node p.minute p.cost q.minute q.cost minute le d.known;
  }

  prunable_at : (p q : Position) → p.node ≡ q.node → p.minute ≡ q.minute → p.cost ≤ q.cost → IsPrunable k now.pairs p → IsPrunable k now.pairs q
  prunable_at p q node minute le e = prunable_worse k sim now.pairs p q
      (record { node = subst (λ m. k.no_worse p.node m ≡ true) node (sim.same p.node); minute = minute; cost = le }) e

  narrow_from : (t x : ℕ) → narrow t ≡ Some x → WaitsFrom k h wide t x → WaitsFrom k h narrow t x
  narrow_from t x is w = ⊎_elim
      (λ (stays : narrow w.minute ≡ Some w.cost).
      record { end = w.end; minute = w.minute; cost = w.cost; offered = stays; move = w.move; at = w.at; within = w.within })
      (λ (d : IsDominated k now (point h w.minute w.cost)). ⊎_elim
      (λ (worse : IsDominated k now w.end). absurd (some.clear t x is (dominated_at w.end (point h t x) w.move.node w.at w.within worse)))
      (λ (e : IsPrunable k now.pairs w.end). absurd (all.clear t x (some.kept t x is) (prunable_at w.end (point h t x) w.move.node w.at w.within e)))
      (wait_dominated w.minute w.cost w.end d w.move))
      (some.left w.minute w.cost w.offered)

  pub narrowed : IsOffer k now h narrow
  narrowed = record {
    reached = λ t x is. all.reached t x (some.kept t x is);
    comes = λ t x is. ⊎_elim
        (λ (first : IsStart k (point h t x) ⊎ ComesBy k now.cost (point h t x)). inl first)
        (λ (w : WaitsFrom k h wide t x). inr (narrow_from t x is w))
        (all.comes t x (some.kept t x is));
    waits = λ away t x q is step. ⊎_elim
        (λ (i : HasIn wide q). ⊎_elim
        (λ (stays : narrow q.minute ≡ Some i.least). inl (record { least = i.least; is = stays; within = i.within }))
        (λ (d : IsDominated k now (point h q.minute i.least)). inr (inl (dominated_at (point h q.minute i.least) q (sym step.node) refl i.within d)))
        (some.left q.minute i.least i.is))
        (λ (e : IsPrunable k now.pairs q). inr (inr e))
        (all.waits t x q (some.kept t x is) step);
  }
