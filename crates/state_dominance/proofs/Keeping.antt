-- How the facts of a search are kept where a node takes an offer.
use Rattle.std.proofs.Common.{◌≡◌, ◌⊎◌, inl, inr, ⊎_elim, ℕ, Bool, true, false, Option, Some, None, refl, sym, ◌∙◌, ap, subst, arith}
use Rattle.std.specs.Prelude.{Contains}
use Rattle.std.proofs.lemmas.Bool.{cases_eq}
use Rattle.route_base.specs.Itinerary.{Position, wait, Waits}
use Rattle.route_base.specs.Front.{RiseAndFall}
use Rattle.route_base.specs.Relaxing.{HasWithin, HasPair}
use Rattle.route_base.specs.declared.types.Pair.{Pair}
use Rattle.propagation.specs.Inside.Invariants.{Progress, point, HasIn, InPart, IsBlank, IsLabel, IsLower, no_part}
use Rattle.state_dominance.specs.Inside.Dominance.{Task, IsSimulation, AreBoundsAlong, Reaches, IsCovered, IsDominated, IsBeaten, IsSurpassed, IsPrunable, IsRelaxedIn, DrivesRelaxed}
use Rattle.state_dominance.specs.Inside.Dominance.{IsStart, ComesBy, IsPairKnown, IsDone, IsSettledIn, IsSearching, IsResting}
use Rattle.state_dominance.specs.Inside.Taking.{IsOffer, IsFirstOffer, TakesOffer, WaitsFrom}
use Rattle.state_dominance.proofs.Pruned.{dominated_covered, prunable_behind, prunable_kept}

-- what is covered, dominated or surpassed stays so, where costs only fall and pairs only get better
module _ (k : Task) (old new : Progress) (less : (p : Position) → HasWithin old.cost p → HasWithin new.cost p)
    (pairs : (t x : ℕ) → HasPair old.pairs t x → HasPair new.pairs t x) where
  pub covered_kept : (p : Position) → IsCovered k old p → IsCovered k new p
  covered_kept p h = record { node = h.node; better = h.better; known = less (point h.node p.minute p.cost) h.known }

  pub dominated_kept : (p : Position) → IsDominated k old p → IsDominated k new p
  dominated_kept p h = record { node = h.node; better = h.better; other = h.other; known = less (point h.node p.minute p.cost) h.known }

  pub relaxed_kept : (p : Position) → IsRelaxedIn k old p → IsRelaxedIn k new p
  relaxed_kept p landed = ⊎_elim
      (λ (h : IsCovered k old p). inl (covered_kept p h))
      (λ (e : IsPrunable k old.pairs p). inr (prunable_kept k old.pairs new.pairs p pairs e))
      landed

  beaten_kept : (p : Position) → IsBeaten k old p → IsBeaten k new p
  beaten_kept p h =
      let n = less (point h.node p.minute h.cost) (record { least = h.cost; is = h.known; within = omega arith }) in
      record { node = h.node; better = h.better; cost = n.least; known = n.is; less = omega (arith, n.within, h.less) }

  surpassed_kept : (p : Position) → IsSurpassed k old p → IsSurpassed k new p
  surpassed_kept p all = λ steps end goal walk. let h = all steps end goal walk in
      record { at = h.at; beaten = beaten_kept h.at h.beaten; after = h.after; walk = h.walk; fewer = h.fewer }

  pub done_kept : (p : Position) → IsDone k old p → IsDone k new p
  done_kept p done = ⊎_elim
      (λ (d : IsDominated k old p). inl (dominated_kept p d))
      (λ (other : IsSurpassed k old p ⊎ DrivesRelaxed k old p). inr (⊎_elim
      (λ (b : IsSurpassed k old p). inl (surpassed_kept p b))
      (λ (all : DrivesRelaxed k old p). inr (λ a q step. relaxed_kept q (all a q step)))
      other))
      done

  pub settled_kept : (v : ℕ) (part : ℕ → Option ℕ) (p : Position) → ((u t : ℕ) → old.pending u t ≡ true → new.pending u t ≡ true)
      → IsSettledIn k old v part p → IsSettledIn k new v part p
  settled_kept v part p stays settled = ⊎_elim
      (λ (e : IsPrunable k old.pairs p). inl (prunable_kept k old.pairs new.pairs p pairs e))
      (λ (rest : (old.pending p.node p.minute ≡ true) ⊎ (InPart v part p ⊎ IsDone k old p)). inr (⊎_elim
      (λ (w : old.pending p.node p.minute ≡ true). inl (stays _ _ w))
      (λ (more : InPart v part p ⊎ IsDone k old p). inr (⊎_elim
      (λ (i : InPart v part p). inl i)
      (λ (last : IsDone k old p). inr (done_kept p last))
      more))
      rest))
      settled

  pub comes_kept : (p : Position) → ComesBy k old.cost p → ComesBy k new.cost p
  comes_kept p h = record {
    step = h.step;
    source = h.source;
    end = h.end;
    move = h.move;
    node = h.node;
    minute = h.minute;
    within = h.within;
    known = less h.source h.known;
  }

goal_or_not : (b : Bool) → (b ≡ true) ⊎ (b ≡ false)
goal_or_not true = inl refl
goal_or_not false = inr refl

module _ (k : Task) (old new : Progress) (h : ℕ) (offer : ℕ → Option ℕ) (sim : IsSimulation k) (bound : AreBoundsAlong k)
    (offers : IsOffer k old h offer) (takes : TakesOffer k h offer old new) where
  -- what is is old, or was offered and is lower
  from_offer : (p : Position) → IsLabel new p → IsLabel old p
      ⊎ ((p.node ≡ h) × (offer p.minute ≡ Some p.cost) × IsLower (Some p.cost) (old.cost h p.minute))
  from_offer p is = ⊎_elim
      (λ (here : p.node ≡ h). ⊎_elim
      (λ (same : old.cost h p.minute ≡ Some p.cost). inl (subst (λ v. old.cost v p.minute ≡ Some p.cost) (sym here) same))
      (λ (low : (offer p.minute ≡ Some p.cost) × IsLower (Some p.cost) (old.cost h p.minute)). inr (here, low.0, low.1))
      (takes.merged.either p.minute p.cost (subst (λ v. new.cost v p.minute ≡ Some p.cost) here is)))
      (λ (other : p.node ≡ h → ⊥). inl (sym (takes.merged.others p.node p.minute other) ∙ is))
      (cases_eq p.node h)

  pub less : (p : Position) → HasWithin old.cost p → HasWithin new.cost p
  less p w = ⊎_elim
      (λ (here : p.node ≡ h).
      let n = takes.merged.kept p.minute w.least (subst (λ v. old.cost v p.minute ≡ Some w.least) here w.is) in
      record { least = n.least; is = subst (λ v. new.cost v p.minute ≡ Some n.least) (sym here) n.is; within = omega (arith, n.within, w.within) })
      (λ (other : p.node ≡ h → ⊥). record { least = w.least; is = takes.merged.others p.node p.minute other ∙ w.is; within = w.within })
      (cases_eq p.node h)

  offered_within : (p : Position) → p.node ≡ h → HasIn offer p → HasWithin new.cost p
  offered_within p here i =
      let n = takes.merged.offered p.minute i.least i.is in
      record { least = n.least; is = subst (λ w. new.cost w p.minute ≡ Some n.least) (sym here) n.is; within = omega (arith, n.within, i.within) }

  pub own_covered : (p : Position) → p.node ≡ h → HasIn offer p → IsCovered k new p
  own_covered p here i = record { node = p.node; better = sim.same p.node; known = offered_within p here i }

  offered_at : (p : Position) → p.node ≡ h → (Q : Position → Type 0) → Q (point h p.minute p.cost) → Q p
  offered_at p here Q = subst (λ w. Q (point w p.minute p.cost)) (sym here)

  from_wait : (t x : ℕ) → WaitsFrom k h offer t x → ComesBy k new.cost (point h t x)
  from_wait t x w = record {
    step = wait;
    source = point h w.minute w.cost;
    end = w.end;
    move = w.move;
    node = w.move.node;
    minute = w.at;
    within = w.within;
    known = offered_within (point h w.minute w.cost) refl (record { least = w.cost; is = w.offered; within = omega arith });
  }

  pub taken : IsRelaxedIn k new k.start
      → ((p : Position) → IsLabel old p → Reaches k p)
      → ((p : Position) → IsLabel old p → IsStart k p ⊎ ComesBy k old.cost p)
      → ((p q : Position) → IsLabel old p → Waits k.setting k.until p q → IsRelaxedIn k old q)
      → (v : ℕ) (part : ℕ → Option ℕ)
      → ((p : Position) → IsLabel old p → IsSettledIn k old v part p)
      → ((p : Pair) → Contains old.pairs p → IsPairKnown k old p)
      → ((g t x : ℕ) → k.goal g ≡ true → old.cost g t ≡ Some x → HasPair old.pairs t x)
      → ((u t : ℕ) → old.pending u t ≡ true → (x : ℕ) × (old.cost u t ≡ Some x))
      → IsSearching k new v part
  taken start reached comes waits v part drives achieved matched known = record {
    start = start;
    reached = λ p is. ⊎_elim
        (λ (same : IsLabel old p). reached p same)
        (λ (low : (p.node ≡ h) × (offer p.minute ≡ Some p.cost) × IsLower (Some p.cost) (old.cost h p.minute)).
        offered_at p low.0 (Reaches k) (offers.reached p.minute p.cost low.1))
        (from_offer p is);
    comes = λ p is. ⊎_elim
        (λ (same : IsLabel old p). ⊎_elim
        (λ (first : IsStart k p). inl first)
        (λ (from : ComesBy k old.cost p). inr (comes_kept k old new less takes.pairs p from))
        (comes p same))
        (λ (low : (p.node ≡ h) × (offer p.minute ≡ Some p.cost) × IsLower (Some p.cost) (old.cost h p.minute)).
        offered_at p low.0 (λ w. IsStart k w ⊎ ComesBy k new.cost w) (⊎_elim
        (λ (first : IsStart k (point h p.minute p.cost) ⊎ ComesBy k old.cost (point h p.minute p.cost)). ⊎_elim
        (λ (begin : IsStart k (point h p.minute p.cost)). inl begin)
        (λ (from : ComesBy k old.cost (point h p.minute p.cost)). inr (comes_kept k old new less takes.pairs (point h p.minute p.cost) from))
        first)
        (λ (w : WaitsFrom k h offer p.minute p.cost). inr (from_wait p.minute p.cost w))
        (offers.comes p.minute p.cost low.1)))
        (from_offer p is);
    waits = λ p q is step. ⊎_elim
        (λ (same : IsLabel old p). relaxed_kept k old new less takes.pairs q (waits p q same step))
        (λ (low : (p.node ≡ h) × (offer p.minute ≡ Some p.cost) × IsLower (Some p.cost) (old.cost h p.minute)). ⊎_elim
        (λ (goal : k.goal h ≡ true). inr (prunable_behind k new.pairs p.minute p.cost q (takes.matched p.minute p.cost goal low.1)
        (omega (arith, step.minute)) (omega (arith, step.cost))))
        (λ (away : k.goal h ≡ false). ⊎_elim
        (λ (i : HasIn offer q). inl (own_covered q (step.node ∙ low.0) i))
        (λ (other : IsDominated k old q ⊎ IsPrunable k old.pairs q). ⊎_elim
        (λ (d : IsDominated k old q). inl (covered_kept k old new less takes.pairs q (dominated_covered k old q d)))
        (λ (e : IsPrunable k old.pairs q). inr (prunable_kept k old.pairs new.pairs q takes.pairs e))
        other)
        (offers.waits away p.minute p.cost q low.1 (subst (λ w. Waits k.setting k.until (point w p.minute p.cost) q) low.0 step)))
        (goal_or_not (k.goal h)))
        (from_offer p is);
    drives = λ p is. ⊎_elim
        (λ (same : IsLabel old p). settled_kept k old new less takes.pairs v part p takes.stays (drives p same))
        (λ (low : (p.node ≡ h) × (offer p.minute ≡ Some p.cost) × IsLower (Some p.cost) (old.cost h p.minute)). ⊎_elim
        (λ (goal : k.goal h ≡ true). inr (inr (inr (inr (inr (λ a q move.
        inr (prunable_behind k new.pairs p.minute p.cost q (takes.matched p.minute p.cost goal low.1)
        (omega (arith, move.minute, bound.time a move.road move.is)) (omega (arith, move.cost)))))))))
        (λ (away : k.goal h ≡ false).
        inr (inl (subst (λ w. new.pending w p.minute ≡ true) (sym low.0) (takes.awaits away p.minute p.cost low.1 low.2))))
        (goal_or_not (k.goal h)))
        (from_offer p is);
    trade = takes.trade;
    achieved = λ p one. ⊎_elim
        (λ (was : Contains old.pairs p). let a = achieved p was in
        record { node = a.node; goal = a.goal; reached = a.reached; known = less (point a.node p.arrival p.cost) a.known })
        (λ (n : (k.goal h ≡ true) × (offer p.arrival ≡ Some p.cost)). record {
          node = h;
          goal = n.0;
          reached = offers.reached p.arrival p.cost n.1;
          known = offered_within (point h p.arrival p.cost) refl (record { least = p.cost; is = n.1; within = omega arith });
        })
        (takes.each p one);
    matched = λ g t x goal is. ⊎_elim
        (λ (same : old.cost g t ≡ Some x). takes.pairs t x (matched g t x goal same))
        (λ (low : (g ≡ h) × (offer t ≡ Some x) × IsLower (Some x) (old.cost h t)).
        takes.matched t x (subst (λ w. k.goal w ≡ true) low.0 goal) low.1)
        (from_offer (point g t x) is);
    known = λ u t is. ⊎_elim
        (λ (was : old.pending u t ≡ true). let y = known u t was in
        let n = less (point u t y.0) (record { least = y.0; is = y.1; within = omega arith }) in (n.least, n.is))
        (λ (low : (u ≡ h) × IsLower (new.cost h t) (old.cost h t)). let n = there (new.cost h t) (old.cost h t) low.1
        in (n.0, ap (λ w. new.cost w t) low.0 ∙ n.1))
        (takes.cause u t is);
  }
    where
      there : (a b : Option ℕ) → IsLower a b → (x : ℕ) × (a ≡ Some x)
      there None b low = absurd low
      there (Some x) b low = (x, refl)

  pub takes_keeps : (v : ℕ) (part : ℕ → Option ℕ) → IsSearching k old v part → IsSearching k new v part
  takes_keeps v part facts = taken (relaxed_kept k old new less takes.pairs k.start facts.start) facts.reached facts.comes facts.waits v part facts.drives
      facts.achieved facts.matched facts.known

  pub takes_first : IsFirstOffer k old h offer → IsResting k new
  takes_first first = taken
      (⊎_elim
      (λ (s : (h ≡ k.start.node) × (offer k.start.minute ≡ Some k.start.cost)).
      inl (own_covered k.start (sym s.0) (record { least = k.start.cost; is = s.1; within = omega arith })))
      (λ (e : IsPrunable k old.pairs k.start). inr (prunable_kept k old.pairs new.pairs k.start takes.pairs e))
      first.start)
      (λ p is. nowhere p is) (λ p is. nowhere p is) (λ p q is step. nowhere p is) 0 no_part (λ p is. nowhere p is)
      (λ p one. let bad = subst (λ w. Contains w p) first.pairs one in absurd (omega (arith, bad.1)))
      (λ g t x goal is. nowhere (point g t x) is)
      (λ u t is. let bad : false ≡ true = sym (first.idle u t) ∙ is in cc)
    where
      nowhere : {C : Type 0} (p : Position) → IsLabel old p → C
      nowhere {C} p is = let bad : None ≡ Some p.cost = sym (first.cost p.node p.minute) ∙ is in cc

-- where nothing is known and the start is prunable nothing is at work
pub blank_rests : (k : Task) (now : Progress) → IsSimulation k → AreBoundsAlong k → IsBlank now → IsPrunable k now.pairs k.start → IsResting k now
blank_rests k now sim bound blank out = takes_first k now now k.start.node (λ t. None) sim bound
    (record {
      reached = λ t x is. none x is;
      comes = λ t x is. none x is;
      waits = λ away t x q is step. none x is;
    })
    (record {
      merged = record {
        others = λ v t other. refl;
        kept = λ t x is. record { least = x; is = is; within = omega arith };
        offered = λ t x is. none x is;
        either = λ t x is. inl is;
      };
      stays = λ v t is. is;
      awaits = λ away t x is low. none x is;
      cause = λ v t is. inl is;
      pairs = λ t x had. had;
      trade = subst RiseAndFall (sym blank.pairs) (λ i j d before within. absurd (omega (arith, within)));
      each = λ p one. inl one;
      matched = λ t x goal is. none x is;
    })
    (record { cost = blank.cost; idle = blank.pending; pairs = blank.pairs; start = inr out })
  where
    none : {C : Type 0} (x : ℕ) → None ≡ Some x → C
    none {C} x is = cc
