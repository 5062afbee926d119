-- How the facts of a search are kept when a node takes an offer.
use Rattle.std.proofs.Common.{◌≡◌, ◌⊎◌, inl, inr, ⊎_elim, ℕ, ◌+◌, ◌≤◌, ◌<◌, true, false, Option, Some, None, [], refl, sym, ◌∙◌, ap, subst, arith}
use Rattle.std.specs.Prelude.{Contains}
use Rattle.std.proofs.lemmas.Bool.{cases_eq, cases_lt}
use Rattle.route_base.specs.Itinerary.{Position, wait, Waits}
use Rattle.route_base.specs.Front.{RiseAndFall}
use Rattle.route_base.specs.Legs.{start_of, end_of}
use Rattle.route_base.specs.Relaxing.{HasWithin}
use Rattle.route_base.specs.declared.types.Bound.{Bound}
use Rattle.propagation.specs.Inside.Invariants.{ArePartStepsRelaxed, ComesBy, DrivesRelaxed, HasIn, Improves, InPart, IsLabel, IsLower, IsOffer, IsPaired}
use Rattle.propagation.specs.Inside.Invariants.{IsPrunable, IsRelaxedIn, IsSearching, IsSound, IsWorseOrLate, AreInReach, Progress, Reaches, TakesOffer}
use Rattle.propagation.specs.Inside.Invariants.{Task, no_part, point}
use Rattle.propagation.specs.Found.{IsStart}
use Rattle.propagation.proofs.Pruning.{prunable_kept}

module _ (k : Task) where
  pub within_kept : (old new : Progress) (p : Position) → Improves k old new → HasWithin old.cost p → HasWithin new.cost p
  within_kept old new p better h =
      let n = better.less (point p.node p.minute h.least) h.is in
      record { least = n.least; is = n.is; within = omega (arith, n.within, h.within) }

  pub relaxed_kept : (old new : Progress) (p : Position) → Improves k old new → IsRelaxedIn k old p → IsRelaxedIn k new p
  relaxed_kept old new p better landed = ⊎_elim
      (λ (h : HasWithin old.cost p). inl (within_kept old new p better h))
      (λ (e : IsPrunable k old.pairs p). inr (prunable_kept k old.pairs new.pairs p better.pairs e))
      landed

  -- what comes by a step still does, where the cost that it comes from is still known
  pub comes_within : (old new : Progress) (p : Position) → ((q : Position) → HasWithin old.cost q → HasWithin new.cost q) → ComesBy k old.cost p
      → ComesBy k new.cost p
  comes_within old new p kept h =
      let known = kept h.source h.known in
      record { step = h.step; source = h.source; end = h.end; move = h.move; node = h.node; minute = h.minute; within = h.within; known = known }

  pub comes_kept : (old new : Progress) (p : Position) → Improves k old new → ComesBy k old.cost p → ComesBy k new.cost p
  comes_kept old new p better h = comes_within old new p (λ q. within_kept old new q better) h

  pub improves_same : (now : Progress) → Improves k now now
  improves_same now = record {
    less = λ p is. record { least = p.cost; is = is; within = omega arith };
    fresh = λ p is. inl is;
    stays = λ v t is. is;
    cause = λ v t is. inl is;
    pairs = λ t x h. h;
  }

  lower_on : (a b c : Option ℕ) → IsLower a b → ((x : ℕ) → c ≡ Some x → (y : ℕ) × (b ≡ Some y) × (y ≤ x)) → IsLower a c
  lower_on None b c low le = low
  lower_on (Some x) b None low le = tt
  lower_on (Some x) None (Some z) low le = let h = le z refl in cc
  lower_on (Some x) (Some y) (Some z) low le = let h = le z refl in let e : y ≡ h.0 = cc in omega (arith, e, low, h.2)

  lower_under : (a b c : Option ℕ) → IsLower b c → ((x : ℕ) → b ≡ Some x → (y : ℕ) × (a ≡ Some y) × (y ≤ x)) → IsLower a c
  lower_under a None c low le = absurd low
  lower_under None (Some y) c low le = let h = le y refl in cc
  lower_under (Some x) (Some y) None low le = tt
  lower_under (Some x) (Some y) (Some z) low le = let h = le y refl in let e : x ≡ h.0 = cc in omega (arith, e, low, h.2)

  pub improves-append : (a b c : Progress) → Improves k a b → Improves k b c → Improves k a c
  improves-append a b c one two = record {
    less = λ p is. within_kept b c p two (one.less p is);
    fresh = λ p is. ⊎_elim
        (λ (same : IsLabel b p). ⊎_elim
        (λ (first : IsLabel a p). inl first)
        (λ (new : (b.pending p.node p.minute ≡ true) ⊎ DrivesRelaxed k b p). inr (⊎_elim
        (λ (h : b.pending p.node p.minute ≡ true). inl (two.stays _ _ h))
        (λ (all : DrivesRelaxed k b p). inr (λ m q step. relaxed_kept b c q two (all m q step)))
        new))
        (one.fresh p same))
        (λ (new : (c.pending p.node p.minute ≡ true) ⊎ DrivesRelaxed k c p). inr new)
        (two.fresh p is);
    stays = λ v t is. two.stays v t (one.stays v t is);
    cause = λ v t is. ⊎_elim
        (λ (was : b.pending v t ≡ true). ⊎_elim
        (λ (first : a.pending v t ≡ true). inl first)
        (λ (low : IsLower (b.cost v t) (a.cost v t)). inr (lower_under (c.cost v t) (b.cost v t) (a.cost v t) low
        (λ x there. let h = two.less (point v t x) there in (h.least, h.is, h.within))))
        (one.cause v t was))
        (λ (low : IsLower (c.cost v t) (b.cost v t)). inr (lower_on (c.cost v t) (b.cost v t) (a.cost v t) low
        (λ x there. let h = one.less (point v t x) there in (h.least, h.is, h.within))))
        (two.cause v t is);
    pairs = λ t x h. two.pairs t x (one.pairs t x h);
  }

  module _ (h : ℕ) (offer : ℕ → Option ℕ) (old new : Progress) where
    -- what is is old, or was offered and is lower
    pub from_offer : TakesOffer k h offer old new → (p : Position) → IsLabel new p → IsLabel old p
        ⊎ ((p.node ≡ h) × (offer p.minute ≡ Some p.cost) × IsLower (Some p.cost) (old.cost h p.minute))
    from_offer takes p is = ⊎_elim
        (λ (here : p.node ≡ h). ⊎_elim
        (λ (same : old.cost h p.minute ≡ Some p.cost). inl (subst (λ v. old.cost v p.minute ≡ Some p.cost) (sym here) same))
        (λ (low : (offer p.minute ≡ Some p.cost) × IsLower (Some p.cost) (old.cost h p.minute)). inr (here, low.0, low.1))
        (takes.merged.either p.minute p.cost (subst (λ v. new.cost v p.minute ≡ Some p.cost) here is)))
        (λ (other : p.node ≡ h → ⊥). inl (sym (takes.merged.others p.node p.minute other) ∙ is))
        (cases_eq p.node h)

    within_of : (v t x : ℕ) → v ≡ h → HasIn (new.cost h) (point h t x) → HasWithin new.cost (point v t x)
    within_of v t x here i = record { least = i.least; is = subst (λ w. new.cost w t ≡ Some i.least) (sym here) i.is; within = i.within }

    offered_within : TakesOffer k h offer old new → (p : Position) → p.node ≡ h → HasIn offer p → HasWithin new.cost p
    offered_within takes p here i =
        let n = takes.merged.offered p.minute i.least i.is in
        record { least = n.least; is = subst (λ w. new.cost w p.minute ≡ Some n.least) (sym here) n.is; within = omega (arith, n.within, i.within) }

    pub takes_improves : TakesOffer k h offer old new → Improves k old new
    takes_improves takes = record {
      less = λ p is. ⊎_elim
          (λ (here : p.node ≡ h). within_of p.node p.minute p.cost here
          (takes.merged.kept p.minute p.cost (subst (λ v. old.cost v p.minute ≡ Some p.cost) here is)))
          (λ (other : p.node ≡ h → ⊥). record { least = p.cost; is = takes.merged.others p.node p.minute other ∙ is; within = omega arith })
          (cases_eq p.node h);
      fresh = λ p is. ⊎_elim
          (λ (same : IsLabel old p). inl same)
          (λ (low : (p.node ≡ h) × (offer p.minute ≡ Some p.cost) × IsLower (Some p.cost) (old.cost h p.minute)).
          inr (at_node p low.0 (takes.awaits p.minute p.cost low.1 low.2)))
          (from_offer takes p is);
      stays = takes.stays;
      cause = λ v t is. ⊎_elim
          (λ (was : old.pending v t ≡ true). inl was)
          (λ (low : (v ≡ h) × IsLower (new.cost h t) (old.cost h t)). inr (subst (λ w. IsLower (new.cost w t) (old.cost w t)) (sym low.0) low.1))
          (takes.cause v t is);
      pairs = takes.pairs;
    }
      where
        at_node : (p : Position) → p.node ≡ h → (new.pending h p.minute ≡ true) ⊎ DrivesRelaxed k new (point h p.minute p.cost)
            → (new.pending p.node p.minute ≡ true) ⊎ DrivesRelaxed k new p
        at_node p here = subst (λ w. (new.pending w p.minute ≡ true) ⊎ DrivesRelaxed k new (point w p.minute p.cost)) (sym here)

    -- what is not excused has bounds, and is in time
    open_bound : IsOffer k old h offer → (t x : ℕ) → offer t ≡ Some x → (b : Bound) × (k.bounds h ≡ Some b) × (t + b.minutes ≤ k.request.until)
    open_bound offers t x is = by (k.bounds h) (offers.clear t x is)
      where
        by : (o : Option Bound) → (IsWorseOrLate k.request.until old.pairs o (point h t x) → ⊥) → (b : Bound) × (o ≡ Some b)
            × (t + b.minutes ≤ k.request.until)
        by None clear = absurd (clear tt)
        by (Some b) clear = (
          b,
          refl,
          ⊎_elim
              (λ (late : k.request.until < t + b.minutes). absurd (clear (inl late)))
              (λ (in_time : t + b.minutes ≤ k.request.until). in_time)
              (cases_lt k.request.until (t + b.minutes)),
        )

    offered_at : (p : Position) → p.node ≡ h → (Q : Position → Type 0) → Q (point h p.minute p.cost) → Q p
    offered_at p here Q = subst (λ w. Q (point w p.minute p.cost)) (sym here)

    sound_kept : IsSound k old → IsOffer k old h offer → TakesOffer k h offer old new → IsSound k new
    sound_kept sound offers takes = record {
      reached = λ p is. ⊎_elim
          (λ (same : IsLabel old p). sound.reached p same)
          (λ (low : (p.node ≡ h) × (offer p.minute ≡ Some p.cost) × IsLower (Some p.cost) (old.cost h p.minute)).
          offered_at p low.0 (Reaches k) (offers.reached p.minute p.cost low.1))
          (from_offer takes p is);
      comes = λ p is. ⊎_elim
          (λ (same : IsLabel old p). ⊎_elim
          (λ (start : IsStart k.request p). inl start)
          (λ (from : ComesBy k old.cost p). inr (comes_kept old new p (takes_improves takes) from))
          (sound.comes p same))
          (λ (low : (p.node ≡ h) × (offer p.minute ≡ Some p.cost) × IsLower (Some p.cost) (old.cost h p.minute)).
          offered_at p low.0 (λ w. IsStart k.request w ⊎ ComesBy k new.cost w) (⊎_elim
          (λ (first : IsStart k.request (point h p.minute p.cost) ⊎ ComesBy k old.cost (point h p.minute p.cost)). ⊎_elim
          (λ (start : IsStart k.request (point h p.minute p.cost)). inl start)
          (λ (from : ComesBy k old.cost (point h p.minute p.cost)). inr (comes_kept old new (point h p.minute p.cost) (takes_improves takes) from))
          first)
          (λ (w : (e : Position) × (u y : ℕ) × (offer u ≡ Some y) × Waits k.setting k.request.until (point h u y) e × (e.minute ≡ p.minute)
          × (e.cost ≤ p.cost)). inr (record {
            step = wait;
            source = point h w.1 w.2;
            end = w.0;
            move = w.4;
            node = w.4.node;
            minute = w.5;
            within = w.6;
            known = offered_within takes (point h w.1 w.2) refl (record { least = w.2; is = w.3; within = omega arith });
          }))
          (offers.comes p.minute p.cost low.1)))
          (from_offer takes p is);
    }

    landing_kept : (v : ℕ) (part : ℕ → Option ℕ) → ArePartStepsRelaxed k old v part → IsOffer k old h offer → TakesOffer k h offer old new
        → ArePartStepsRelaxed k new v part
    landing_kept v part landing offers takes =
        let better = takes_improves takes in
        record {
          waits = λ p q is step. ⊎_elim
              (λ (same : IsLabel old p). relaxed_kept old new q better (landing.waits p q same step))
              (λ (low : (p.node ≡ h) × (offer p.minute ≡ Some p.cost) × IsLower (Some p.cost) (old.cost h p.minute)). ⊎_elim
              (λ (i : HasIn offer q). inl (offered_within takes q (step.node ∙ low.0) i))
              (λ (e : IsPrunable k old.pairs q). inr (prunable_kept k old.pairs new.pairs q takes.pairs e))
              (offers.waits p.minute p.cost q low.1 (subst (λ w. Waits k.setting k.request.until (point w p.minute p.cost) q) low.0 step)))
              (from_offer takes p is);
          drives = λ p is. ⊎_elim
              (λ (same : IsLabel old p). ⊎_elim
              (λ (e : IsPrunable k old.pairs p). inl (prunable_kept k old.pairs new.pairs p takes.pairs e))
              (λ (rest : (old.pending p.node p.minute ≡ true) ⊎ (InPart v part p ⊎ DrivesRelaxed k old p)). inr (⊎_elim
              (λ (w : old.pending p.node p.minute ≡ true). inl (takes.stays _ _ w))
              (λ (more : InPart v part p ⊎ DrivesRelaxed k old p). inr (⊎_elim
              (λ (i : InPart v part p). inl i)
              (λ (all : DrivesRelaxed k old p). inr (λ a q step. relaxed_kept old new q better (all a q step)))
              more))
              rest))
              (landing.drives p same))
              (λ (fresh : (new.pending p.node p.minute ≡ true) ⊎ DrivesRelaxed k new p). inr (⊎_elim
              (λ (w : new.pending p.node p.minute ≡ true). inl w)
              (λ (all : DrivesRelaxed k new p). inr (inr all))
              fresh))
              (better.fresh p is);
        }

    paired_kept : IsPaired k old → IsOffer k old h offer → TakesOffer k h offer old new → IsPaired k new
    paired_kept paired offers takes = record {
      trade = takes.trade;
      achieved = λ p one. ⊎_elim
          (λ (was : Contains old.pairs p). let a = paired.achieved p was in (a.0, within_kept old new (end_of k.request p) (takes_improves takes) a.1))
          (λ (n : (h ≡ k.request.goal.0) × (offer p.arrival ≡ Some p.cost)). (
            subst (λ w. Reaches k (point w p.arrival p.cost)) n.0 (offers.reached p.arrival p.cost n.1),
            offered_within takes (end_of k.request p) (sym n.0) (record { least = p.cost; is = n.1; within = omega arith }),
          ))
          (takes.each p one);
      matched = λ t x is. ⊎_elim
          (λ (same : old.cost k.request.goal.0 t ≡ Some x). takes.pairs t x (paired.matched t x same))
          (λ (low : (k.request.goal.0 ≡ h) × (offer t ≡ Some x) × IsLower (Some x) (old.cost h t)). takes.matched t x (sym low.0) low.1)
          (from_offer takes (point k.request.goal.0 t x) is);
    }

    tight_kept : AreInReach k old → IsOffer k old h offer → TakesOffer k h offer old new → AreInReach k new
    tight_kept tight offers takes p is = ⊎_elim
        (λ (same : IsLabel old p). tight p same)
        (λ (low : (p.node ≡ h) × (offer p.minute ≡ Some p.cost) × IsLower (Some p.cost) (old.cost h p.minute)).
        let b = open_bound offers p.minute p.cost low.1 in (b.0, ap k.bounds low.0 ∙ b.1, b.2))
        (from_offer takes p is)

    pub takes_keeps : (v : ℕ) (part : ℕ → Option ℕ) → IsSearching k old v part → IsOffer k old h offer → TakesOffer k h offer old new → IsSearching k new v part
    takes_keeps v part facts offers takes = record {
      start = relaxed_kept old new (start_of k.request) (takes_improves takes) facts.start;
      sound = sound_kept facts.sound offers takes;
      steps = landing_kept v part facts.steps offers takes;
      paired = paired_kept facts.paired offers takes;
      tight = tight_kept facts.tight offers takes;
      known = λ u t is. ⊎_elim
          (λ (was : old.pending u t ≡ true). let h = facts.known u t was in let n = (takes_improves takes).less (point u t h.0) h.1 in (n.least, n.is))
          (λ (low : (u ≡ h) × IsLower (new.cost h t) (old.cost h t)). let n = there (new.cost h t) (old.cost h t) low.1
          in (n.0, ap (λ w. new.cost w t) low.0 ∙ n.1))
          (takes.cause u t is);
    }
      where
        there : (a b : Option ℕ) → IsLower a b → (x : ℕ) × (a ≡ Some x)
        there None b low = absurd low
        there (Some x) b low = (x, refl)

    -- where the offer has a cost or an excuse, the position lands
    pub covered_relaxed : TakesOffer k h offer old new → (q : Position) → q.node ≡ h → HasIn offer q ⊎ IsPrunable k old.pairs q → IsRelaxedIn k new q
    covered_relaxed takes q here covered = ⊎_elim
        (λ (i : HasIn offer q). inl (offered_within takes q here i))
        (λ (e : IsPrunable k old.pairs q). inr (prunable_kept k old.pairs new.pairs q takes.pairs e))
        covered

    -- with the first offer the search begins
    pub takes_first : ((u t : ℕ) → old.cost u t ≡ None) → ((u t : ℕ) → old.pending u t ≡ false) → old.pairs ≡ [] → IsRelaxedIn k new (start_of k.request)
        → IsOffer k old h offer → TakesOffer k h offer old new → IsSearching k new 0 no_part
    takes_first none idle empty start offers takes = record {
      start = start;
      sound = sound_kept (record { reached = λ p is. nowhere p is; comes = λ p is. nowhere p is }) offers takes;
      steps = landing_kept 0 no_part (record { waits = λ p q is step. nowhere p is; drives = λ p is. nowhere p is }) offers takes;
      paired = paired_kept (record {
        trade = subst RiseAndFall (sym empty) (λ i j d before within. absurd (omega (arith, within)));
        achieved = λ p one. let bad = subst (λ w. Contains w p) empty one in absurd (omega (arith, bad.1));
        matched = λ t x is. nowhere (point k.request.goal.0 t x) is;
      }) offers takes;
      tight = tight_kept (λ p is. nowhere p is) offers takes;
      known = λ u t is. ⊎_elim
          (λ (was : old.pending u t ≡ true). let bad : false ≡ true = sym (idle u t) ∙ was in cc)
          (λ (low : (u ≡ h) × IsLower (new.cost h t) (old.cost h t)). let n = there (new.cost h t) (old.cost h t) low.1
          in (n.0, ap (λ w. new.cost w t) low.0 ∙ n.1))
          (takes.cause u t is);
    }
      where
        nowhere : {C : Type 0} (p : Position) → IsLabel old p → C
        nowhere {C} p is = let bad : None ≡ Some p.cost = sym (none p.node p.minute) ∙ is in cc

        there : (a b : Option ℕ) → IsLower a b → (x : ℕ) × (a ≡ Some x)
        there None b low = absurd low
        there (Some x) b low = (x, refl)
