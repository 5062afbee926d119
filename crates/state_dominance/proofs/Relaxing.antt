-- Where an offer is taken, each drive that it was made of is relaxed.
use Rattle.std.proofs.Common.{◌≡◌, inl, inr, ⊎_elim, ℕ, true, Option, Some, refl, sym, subst, arith}
use Rattle.route_base.specs.Itinerary.{Position, Drives}
use Rattle.propagation.specs.Inside.Invariants.{Progress, point, HasIn}
use Rattle.state_dominance.specs.Inside.Dominance.{Task, IsSimulation, AreBoundsAlong, IsDominated, IsPrunable, IsRelaxedIn}
use Rattle.state_dominance.specs.Inside.Taking.{IsNarrowed, IsOffer, TakesOffer}
use Rattle.state_dominance.specs.Inside.Widening.{IsDriven, IsCleared, IsClosed}
use Rattle.state_dominance.proofs.Keeping.{covered_kept, less, own_covered}
use Rattle.state_dominance.proofs.Pruned.{dominated_covered, prunable_kept, within_dearer}
use Rattle.state_dominance.proofs.Widening.{clear_wide}

module _ (k : Task) (old new : Progress) (sim : IsSimulation k) (bound : AreBoundsAlong k) (a v h : ℕ) (part ends clear wide narrow : ℕ → Option ℕ)
    (driven : IsDriven k a v part h ends) (first : IsCleared k old.pairs h ends clear) (closed : IsClosed k old.pairs h clear wide)
    (cut : IsNarrowed k old h wide narrow) (offers : IsOffer k old h narrow) (takes : TakesOffer k h narrow old new) where
  pub drive_relaxed : (t x : ℕ) (q : Position) → part t ≡ Some x → Drives k.setting k.until a (point v t x) q → IsRelaxedIn k new q
  drive_relaxed t x q is move =
      let d = driven.to t x q is move in
      let pruned : IsPrunable k old.pairs (point h q.minute q.cost) → IsRelaxedIn k new q = λ p.
      inr (prunable_kept k old.pairs new.pairs q takes.pairs (subst (λ n. IsPrunable k old.pairs (point n q.minute q.cost)) (sym d.0) p)) in
      ⊎_elim
      (λ (there : clear q.minute ≡ Some q.cost). ⊎_elim
      (λ (w : HasIn wide (point h q.minute q.cost)). ⊎_elim
      (λ (stays : narrow q.minute ≡ Some w.least).
      inl (own_covered k old new h narrow sim bound offers takes q d.0 (record { least = w.least; is = stays; within = w.within })))
      (λ (dom : IsDominated k old (point h q.minute w.least)).
      inl (covered_kept k old new (less k old new h narrow sim bound offers takes) takes.pairs q (dominated_covered k old q (record {
        node = dom.node;
        better = subst (λ n. k.no_worse dom.node n ≡ true) (sym d.0) dom.better;
        other = omega (arith, dom.other, d.0);
        known = within_dearer k old dom.node q.minute w.least q.minute q.cost refl w.within dom.known;
      }))))
      (cut.left q.minute w.least w.is))
      (λ (p : IsPrunable k old.pairs (point h q.minute q.cost)). pruned p)
      (clear_wide k old sim h clear wide closed q.minute q.cost there))
      (λ (p : IsPrunable k old.pairs (point h q.minute q.cost)). pruned p)
      (first.left q.minute q.cost d.1)
