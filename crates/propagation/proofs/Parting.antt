-- A part is taken, driven on, and settled; where no_part is pending, no_part is left out.
use Rattle.std.proofs.Common.{◌≡◌, ◌⊎◌, inl, inr, ⊎_elim, ℕ, ◌≤◌, true, false, Option, Some, None, sym, ◌∙◌, subst, arith}
use Rattle.std.specs.Prelude.{Contains}
use Rattle.route_base.specs.Itinerary.{Position, Step, drive, wait, Moves}
use Rattle.route_base.specs.Legs.{start_of, end_of}
use Rattle.route_base.specs.Front.{IsFront, RiseAndFall}
use Rattle.route_base.specs.Relaxing.{HasWithin, HasPair, AreBounds, IsComplete, IsRelaxed}
use Rattle.route_base.specs.declared.types.Bound.{Bound}
use Rattle.route_base.proofs.Covering.{covered}
use Rattle.route_base.proofs.Fronts.{is_front}
use Rattle.propagation.specs.Inside.Offers.{IsKnownPart}
use Rattle.propagation.specs.Inside.Invariants.{ComesBy, DrivesRelaxed, InPart, IsLabel, IsPrunable, IsRelaxedIn, IsResting, IsSearching, Progress, TakesPart}
use Rattle.propagation.specs.Inside.Invariants.{Task, no_part, point}
use Rattle.propagation.specs.Found.{IsStart}
use Rattle.propagation.proofs.Keeping.{comes_within}
use Rattle.propagation.proofs.Pruning.{prunable_dominated}

module _ (k : Task) where
  -- what is pending is excused, in the part, or pending still
  pub parts_keep : (v : ℕ) (part : ℕ → Option ℕ) (old new : Progress) → IsResting k old → TakesPart k v part old new → IsSearching k new v part
  parts_keep v part old new facts parts = record {
    sound = record {
      reached = λ p is. facts.sound.reached p (was p is);
      comes = λ p is. ⊎_elim
          (λ (start : IsStart k.request p). inl start)
          (λ (from : ComesBy k old.cost p). inr (comes_within k old new p same_within from))
          (facts.sound.comes p (was p is));
    };
    start = same_lands (start_of k.request) facts.start;
    steps = record {
      waits = λ p q is step. same_lands q (facts.steps.waits p q (was p is) step);
      drives = λ p is. ⊎_elim
          (λ (e : IsPrunable k old.pairs p). inl (excused p e))
          (λ (rest : (old.pending p.node p.minute ≡ true) ⊎ (InPart 0 no_part p ⊎ DrivesRelaxed k old p)). ⊎_elim
          (λ (w : old.pending p.node p.minute ≡ true). ⊎_elim
          (λ (still : new.pending p.node p.minute ≡ true). inr (inl still))
          (λ (here : (p.node ≡ v) × ((x : ℕ) → old.cost v p.minute ≡ Some x → (part p.minute ≡ Some x) ⊎ IsPrunable k old.pairs (point v p.minute x))). ⊎_elim
          (λ (i : part p.minute ≡ Some p.cost). inr (inr (inl (here.0, i))))
          (λ (e : IsPrunable k old.pairs (point v p.minute p.cost)).
          inl (excused p (subst (λ w. IsPrunable k old.pairs (point w p.minute p.cost)) (sym here.0) e)))
          (here.1 p.cost (subst (λ w. old.cost w p.minute ≡ Some p.cost) here.0 (was p is))))
          (parts.pending p.node p.minute w))
          (λ (more : InPart 0 no_part p ⊎ DrivesRelaxed k old p). ⊎_elim
          (λ (i : InPart 0 no_part p). let bad : None ≡ Some p.cost = i.1 in cc)
          (λ (all : DrivesRelaxed k old p). inr (inr (inr (λ a q step. same_lands q (all a q step)))))
          more)
          rest)
          (facts.steps.drives p (was p is));
    };
    paired = record {
      trade = subst (λ w. RiseAndFall w) (sym parts.pairs) facts.paired.trade;
      achieved = λ p one. let a = facts.paired.achieved p (subst (λ w. Contains w p) parts.pairs one) in (a.0, same_within (end_of k.request p) a.1);
      matched = λ t x is. subst (λ w. HasPair w t x) (sym parts.pairs) (facts.paired.matched t x (sym (parts.cost k.request.goal.0 t) ∙ is));
    };
    tight = λ p is. facts.tight p (was p is);
    known = λ u t is. let h = facts.known u t (parts.less u t is) in (h.0, parts.cost u t ∙ h.1);
  }
    where
      was : (p : Position) → IsLabel new p → IsLabel old p
      was p is = sym (parts.cost p.node p.minute) ∙ is

      same_within : (p : Position) → HasWithin old.cost p → HasWithin new.cost p
      same_within p h = record { least = h.least; is = parts.cost p.node p.minute ∙ h.is; within = h.within }

      excused : (p : Position) → IsPrunable k old.pairs p → IsPrunable k new.pairs p
      excused p = subst (λ w. IsPrunable k w p) (sym parts.pairs)

      same_lands : (p : Position) → IsRelaxedIn k old p → IsRelaxedIn k new p
      same_lands p landed = ⊎_elim (λ (h : HasWithin old.cost p). inl (same_within p h)) (λ (e : IsPrunable k old.pairs p). inr (excused p e)) landed

  -- a part whose drives all land is at work no more
  pub settle : (now : Progress) (v : ℕ) (part : ℕ → Option ℕ) → IsSearching k now v part → ((t x : ℕ) → part t ≡ Some x → DrivesRelaxed k now (point v t x))
      → IsResting k now
  settle now v part facts all = record {
    sound = facts.sound;
    start = facts.start;
    steps = record {
      waits = facts.steps.waits;
      drives = λ p is. ⊎_elim
          (λ (e : IsPrunable k now.pairs p). inl e)
          (λ (rest : (now.pending p.node p.minute ≡ true) ⊎ (InPart v part p ⊎ DrivesRelaxed k now p)). inr (⊎_elim
          (λ (w : now.pending p.node p.minute ≡ true). inl w)
          (λ (more : InPart v part p ⊎ DrivesRelaxed k now p). inr (inr (⊎_elim
          (λ (i : InPart v part p). subst (λ w. DrivesRelaxed k now (point w p.minute p.cost)) (sym i.0) (all p.minute p.cost i.1))
          (λ (each : DrivesRelaxed k now p). each)
          more)))
          rest))
          (facts.steps.drives p is);
    };
    paired = facts.paired;
    tight = facts.tight;
    known = facts.known;
  }

  -- where no_part is pending, no_part is left out
  pub finished : (now : Progress) → AreBounds k.setting k.request.goal.0 k.bounds → IsResting k now → ((v t : ℕ) → now.pending v t ≡ false)
      → IsComplete k.setting k.request now.pairs k.bounds now.cost
  finished now bound facts none = record {
    bound = bound;
    start = relaxed (start_of k.request) facts.start;
    goes_on = λ p is. ⊎_elim
        (λ (e : IsPrunable k now.pairs p). inl (prunable_dominated k now.pairs p e))
        (λ (rest : (now.pending p.node p.minute ≡ true) ⊎ (InPart 0 no_part p ⊎ DrivesRelaxed k now p)). inr (⊎_elim
        (λ (w : now.pending p.node p.minute ≡ true). let bad : true ≡ false = sym w ∙ none p.node p.minute in cc)
        (λ (more : InPart 0 no_part p ⊎ DrivesRelaxed k now p). ⊎_elim
        (λ (i : InPart 0 no_part p). let bad : None ≡ Some p.cost = i.1 in cc)
        (λ (all : DrivesRelaxed k now p). each p is all)
        more)
        rest))
        (facts.steps.drives p is);
    end = facts.paired.matched;
  }
    where
      relaxed : (p : Position) → IsRelaxedIn k now p → IsRelaxed k.request.until now.pairs k.bounds now.cost p
      relaxed p landed = ⊎_elim
          (λ (h : HasWithin now.cost p). inl h)
          (λ (e : IsPrunable k now.pairs p). inr (prunable_dominated k now.pairs p e))
          landed

      each : (p : Position) → IsLabel now p → DrivesRelaxed k now p → (x : Step) (q : Position) → Moves k.setting k.request.until x p q
          → IsRelaxed k.request.until now.pairs k.bounds now.cost q
      each p is all (drive a) q step = relaxed q (all a q step)
      each p is all wait q step = relaxed q (facts.steps.waits p q is step)

  pub front : (now : Progress) → k.request.depart ≤ k.request.until → AreBounds k.setting k.request.goal.0 k.bounds → IsResting k now
      → ((v t : ℕ) → now.pending v t ≡ false) → IsFront k.setting k.request now.pairs
  front now in_time bound facts none = is_front k.setting k.request now.pairs facts.paired.trade
      (λ p one. let a = (facts.paired.achieved p one).0 in record { in_time = in_time; steps = a.0; walk = a.1 })
      (covered k.setting k.request now.pairs k.bounds now.cost (finished now bound facts none))

  -- what is pending has bounds, and is in time
  pub pending_bound : (now : Progress) (v t : ℕ) → IsResting k now → now.pending v t ≡ true → (b : Bound) × (k.bounds v ≡ Some b) × (t ≤ k.request.until)
  pending_bound now v t facts is =
      let x = facts.known v t is in
      let b = facts.tight (point v t x.0) x.1 in
      (b.0, b.1, omega (arith, b.2))

  -- what is taken for a part is reached, and is
  pub parts_hold : (v : ℕ) (part : ℕ → Option ℕ) (old new : Progress) → IsResting k old → TakesPart k v part old new → IsKnownPart k new v part
  parts_hold v part old new facts parts = record {
    reached = λ t x is. facts.sound.reached (point v t x) (parts.within t x is);
    known = λ t x is. record { least = x; is = parts.cost v t ∙ parts.within t x is; within = omega arith };
  }
