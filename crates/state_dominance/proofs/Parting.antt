-- A part is taken, loses what is dominated or surpassed, and is done.
use Rattle.std.proofs.Common.{◌≡◌, ◌⊎◌, inl, inr, ⊎_elim, ℕ, true, Option, Some, None, sym, ◌∙◌, subst}
use Rattle.std.specs.Prelude.{Contains}
use Rattle.route_base.specs.Itinerary.{Position}
use Rattle.route_base.specs.Front.{RiseAndFall}
use Rattle.route_base.specs.Relaxing.{HasWithin, HasPair}
use Rattle.propagation.specs.Inside.Invariants.{Progress, point, InPart, IsLabel, no_part}
use Rattle.state_dominance.specs.Inside.Dominance.{Task, IsPrunable, DrivesRelaxed, IsStart, ComesBy, IsDone, IsSettledIn, IsSearching, IsResting}
use Rattle.state_dominance.specs.Inside.Taking.{TakesPart}
use Rattle.state_dominance.proofs.Keeping.{comes_kept, done_kept, relaxed_kept}

module _ (k : Task) where
  module _ (v : ℕ) (part : ℕ → Option ℕ) (old new : Progress) (facts : IsResting k old) (parts : TakesPart k v part old new) where
    was : (p : Position) → IsLabel new p → IsLabel old p
    was p is = sym (parts.cost p.node p.minute) ∙ is

    less : (p : Position) → HasWithin old.cost p → HasWithin new.cost p
    less p h = record { least = h.least; is = parts.cost p.node p.minute ∙ h.is; within = h.within }

    pairs : (t x : ℕ) → HasPair old.pairs t x → HasPair new.pairs t x
    pairs t x = subst (λ w. HasPair w t x) (sym parts.pairs)

    excused : (p : Position) → IsPrunable k old.pairs p → IsPrunable k new.pairs p
    excused p = subst (λ w. IsPrunable k w p) (sym parts.pairs)

    settled : (p : Position) → IsLabel old p → IsSettledIn k old 0 no_part p → IsSettledIn k new v part p
    settled p is held = ⊎_elim
        (λ (e : IsPrunable k old.pairs p). inl (excused p e))
        (λ (rest : (old.pending p.node p.minute ≡ true) ⊎ (InPart 0 no_part p ⊎ IsDone k old p)). ⊎_elim
        (λ (w : old.pending p.node p.minute ≡ true). ⊎_elim
        (λ (still : new.pending p.node p.minute ≡ true). inr (inl still))
        (λ (here : (p.node ≡ v) × ((x : ℕ) → old.cost v p.minute ≡ Some x → (part p.minute ≡ Some x) ⊎ IsPrunable k old.pairs (point v p.minute x))). ⊎_elim
        (λ (i : part p.minute ≡ Some p.cost). inr (inr (inl (here.0, i))))
        (λ (e : IsPrunable k old.pairs (point v p.minute p.cost)).
        inl (excused p (subst (λ w. IsPrunable k old.pairs (point w p.minute p.cost)) (sym here.0) e)))
        (here.1 p.cost (subst (λ w. old.cost w p.minute ≡ Some p.cost) here.0 is)))
        (parts.pending p.node p.minute w))
        (λ (more : InPart 0 no_part p ⊎ IsDone k old p). ⊎_elim
        (λ (i : InPart 0 no_part p). let bad : None ≡ Some p.cost = i.1 in cc)
        (λ (last : IsDone k old p). inr (inr (inr (done_kept k old new less pairs p last))))
        more)
        rest)
        held

    pub parts_keep : IsSearching k new v part
    parts_keep = record {
      start = relaxed_kept k old new less pairs k.start facts.start;
      reached = λ p is. facts.reached p (was p is);
      comes = λ p is. ⊎_elim
          (λ (first : IsStart k p). inl first)
          (λ (from : ComesBy k old.cost p). inr (comes_kept k old new less pairs p from))
          (facts.comes p (was p is));
      waits = λ p q is step. relaxed_kept k old new less pairs q (facts.waits p q (was p is) step);
      drives = λ p is. settled p (was p is) (facts.drives p (was p is));
      trade = subst (λ w. RiseAndFall w) (sym parts.pairs) facts.trade;
      achieved = λ p one. let a = facts.achieved p (subst (λ w. Contains w p) parts.pairs one) in
          record { node = a.node; goal = a.goal; reached = a.reached; known = less (point a.node p.arrival p.cost) a.known };
      matched = λ g t x goal is. pairs t x (facts.matched g t x goal (sym (parts.cost g t) ∙ is));
      known = λ u t is. let h = facts.known u t (parts.less u t is) in (h.0, parts.cost u t ∙ h.1);
    }

  -- what a part loses is done
  pub lessen : (now : Progress) (v : ℕ) (wide narrow : ℕ → Option ℕ) → IsSearching k now v wide
      → ((t x : ℕ) → wide t ≡ Some x → (narrow t ≡ Some x) ⊎ IsDone k now (point v t x)) → IsSearching k now v narrow
  lessen now v wide narrow facts lost = record {
    start = facts.start;
    reached = facts.reached;
    comes = facts.comes;
    waits = facts.waits;
    drives = λ p is. ⊎_elim
        (λ (e : IsPrunable k now.pairs p). inl e)
        (λ (rest : (now.pending p.node p.minute ≡ true) ⊎ (InPart v wide p ⊎ IsDone k now p)). inr (⊎_elim
        (λ (w : now.pending p.node p.minute ≡ true). inl w)
        (λ (more : InPart v wide p ⊎ IsDone k now p). inr (⊎_elim
        (λ (i : InPart v wide p). ⊎_elim
        (λ (stays : narrow p.minute ≡ Some p.cost). inl (i.0, stays))
        (λ (done : IsDone k now (point v p.minute p.cost)). inr (subst (λ w. IsDone k now (point w p.minute p.cost)) (sym i.0) done))
        (lost p.minute p.cost i.1))
        (λ (done : IsDone k now p). inr done)
        more))
        rest))
        (facts.drives p is);
    trade = facts.trade;
    achieved = facts.achieved;
    matched = facts.matched;
    known = facts.known;
  }

  -- a part whose drives are relaxed is at work no more
  pub settle : (now : Progress) (v : ℕ) (part : ℕ → Option ℕ) → IsSearching k now v part → ((t x : ℕ) → part t ≡ Some x → DrivesRelaxed k now (point v t x))
      → IsResting k now
  settle now v part facts all =
      let left = lessen now v part no_part facts (λ t x is. inr (inr (inr (all t x is)))) in
      record {
        start = left.start;
        reached = left.reached;
        comes = left.comes;
        waits = left.waits;
        drives = λ p is. ⊎_elim
            (λ (e : IsPrunable k now.pairs p). inl e)
            (λ (rest : (now.pending p.node p.minute ≡ true) ⊎ (InPart v no_part p ⊎ IsDone k now p)). inr (⊎_elim
            (λ (w : now.pending p.node p.minute ≡ true). inl w)
            (λ (more : InPart v no_part p ⊎ IsDone k now p). inr (⊎_elim
            (λ (i : InPart v no_part p). let bad : None ≡ Some p.cost = i.1 in cc)
            (λ (done : IsDone k now p). inr done)
            more))
            rest))
            (left.drives p is);
        trade = left.trade;
        achieved = left.achieved;
        matched = left.matched;
        known = left.known;
      }
