-- A part that is driven, cleared, waited and cleared is an offer.
use Rattle.std.proofs.Common.{◌≡◌, ◌⊎◌, inl, inr, ⊎_elim, ℕ, suc, ◌+◌, ◌-◌, ◌*◌, ◌≤◌, ◌<◌, Option, Some, None, List, ◌∷◌, [], ◌++◌, replicate, refl, sym, ◌∙◌}
use Rattle.std.specs.Prelude.{false}
use Rattle.std.proofs.Common.{ap, subst, arith}
use Rattle.std.proofs.lemmas.Bool.{cases_lt}
use Rattle.route_base.specs.Itinerary.{Position, drive, wait, Waits, Walks}
use Rattle.route_base.specs.Legs.{start_of}
use Rattle.route_base.specs.Open.{IsWaitOpen}
use Rattle.route_base.specs.Relaxing.{IsDominatedOrLate, AreBounds}
use Rattle.route_base.specs.declared.types.Bound.{Bound}
use Rattle.route_base.specs.declared.types.Pair.{Pair}
use Rattle.function_merge.specs.Pruning.{IsPruned}
use Rattle.route_base.proofs.Walking.{walk-push, walk-append}
use Rattle.route_base.proofs.Waiting.{waits, same_position}
use Rattle.propagation.proofs.Pruning.{by_worse, prunable_dearer, prunable_moves, worse_by_borders}
use Rattle.propagation.specs.Inside.Offers.{IsOpenUntil, Covers, CoversDrives, IsCleared, IsDriven, IsKnownPart, IsSource, IsWaited}
use Rattle.propagation.specs.Inside.Invariants.{ComesBy, HasIn, IsOffer, IsPrunable, IsWorseOrLate, Progress, Reaches, Task, point}
use Rattle.propagation.specs.Inside.Pairs.{AreBorders}
use Rattle.propagation.specs.Found.{IsStart}

one_more : (w s t : ℕ) → s ≤ t → w * (t + 1 - s) ≡ w * (t - s) + w
one_more w s t le = let e : t + 1 - s ≡ suc (t - s) = omega arith in ap (λ n. w * n) e ∙ omega arith

one_less : (w s t : ℕ) → s < t → w * (t - s) ≡ w * (t - 1 - s) + w
one_less w s t le = let e : t - s ≡ suc (t - 1 - s) = omega arith in ap (λ n. w * n) e ∙ omega arith

-- what is pruned by borders is cleared at a node with the bound
pub cleared_of : (k : Task) (pairs borders : List Pair) (h : ℕ) (b : Bound) (f g : ℕ → Option ℕ) → k.bounds h ≡ Some b → AreBorders pairs borders
    → IsPruned k.request.until borders b f g → IsCleared k pairs h f g
cleared_of k pairs borders h b f g is are pruned = record {
  kept = pruned.kept;
  clear = λ t x there e. pruned.clear (point h t x) there (by_worse k.request.until pairs borders b (point h t x) are
      (subst (λ o. IsWorseOrLate k.request.until pairs o (point h t x)) is e));
  left = λ t x there. ⊎_elim
      (λ (stays : g t ≡ Some x). inl stays)
      (λ (e : IsDominatedOrLate k.request.until borders (Some b) (point h t x)).
      inr (subst (λ o. IsWorseOrLate k.request.until pairs o (point h t x)) (sym is)
      (worse_by_borders k.request.until pairs borders b (point h t x) are e)))
      (pruned.left (point h t x) there);
}

module _ (k : Task) (now : Progress) where
  -- what is late by the bound is excused
  prunable_late : (h : ℕ) (b : Bound) (q : Position) → k.bounds h ≡ Some b → q.node ≡ h → k.request.until < q.minute + b.minutes → IsPrunable k now.pairs q
  prunable_late h b q is here late = subst (λ o. IsWorseOrLate k.request.until now.pairs o q) (sym (ap k.bounds here ∙ is)) (inl late)

  -- what isn't excused is in time
  in_time : (h : ℕ) (b : Bound) (t x : ℕ) → k.bounds h ≡ Some b → (IsPrunable k now.pairs (point h t x) → ⊥) → t + b.minutes ≤ k.request.until
  in_time h b t x is clear = ⊎_elim
      (λ (late : k.request.until < t + b.minutes). absurd (clear (prunable_late h b (point h t x) is refl late)))
      (λ (early : t + b.minutes ≤ k.request.until). early)
      (cases_lt k.request.until (t + b.minutes))

  module _ (a v h : ℕ) (part driven : ℕ → Option ℕ) where
    -- what drives make of a part is a source
    pub source_of : IsKnownPart k now v part → IsDriven k a v part h driven → IsSource k now h driven
    source_of holds drove = record {
      reached = λ t x is.
          let d = drove.from t x is in
          let r = holds.reached d.0 d.1 d.2 in
          (r.0 ++ drive a ∷ [], walk-push k.setting k.request.until r.0 (drive a) (start_of k.request) (point v d.0 d.1) (point h t x) r.1 d.3);
      comes = λ t x y is le.
          let d = drove.from t y is in
          inr (record {
            step = drive a;
            source = point v d.0 d.1;
            end = point h t y;
            move = d.3;
            node = refl;
            minute = refl;
            within = le;
            known =
                holds.known d.0 d.1 d.2;
          });
    }

    pub covers_drives : (offer : ℕ → Option ℕ) → IsDriven k a v part h driven → Covers k now.pairs h driven offer → CoversDrives k now.pairs a v part h offer
    covers_drives offer drove covers u y q is step =
        let d = drove.to u y q is step in (
          d.0,
          ⊎_elim
              (λ (i : HasIn offer (point h q.minute q.cost)). inl (record { least = i.least; is = i.is; within = i.within }))
              (λ (e : IsPrunable k now.pairs (point h q.minute q.cost)). inr (subst (λ w. IsPrunable k now.pairs (point w q.minute q.cost)) (sym d.0) e))
              (covers q.minute q.cost d.1),
        )

  module _ (h : ℕ) (costs clear : ℕ → Option ℕ) where
    -- at a node without a rating
    pub offer_unrated : k.setting.weight h ≡ None → IsSource k now h costs → IsCleared k now.pairs h costs clear → IsOffer k now h clear
    offer_unrated unrated source cleared = record {
      reached = λ t x is. source.reached t x (cleared.kept t x is);
      comes = λ t x is. inl (source.comes t x x (cleared.kept t x is) (omega arith));
      waits = λ t x q is step. let bad : None ≡ Some step.weight = sym unrated ∙ step.rated in cc;
      clear = cleared.clear;
    }

    pub covers_unrated : IsCleared k now.pairs h costs clear → Covers k now.pairs h costs clear
    covers_unrated cleared t x is = ⊎_elim
        (λ (there : clear t ≡ Some x). inl (record { least = x; is = there; within = omega arith }))
        (λ (e : IsPrunable k now.pairs (point h t x)). inr e)
        (cleared.left t x is)

    module _ (waited offer : ℕ → Option ℕ) (weight : ℕ) (b : Bound) where
      -- at a rated node
      pub offer_waited : AreBounds k.setting k.request.goal.0 k.bounds → k.setting.weight h ≡ Some weight → k.bounds h ≡ Some b → IsSource k now h costs
          → IsCleared k now.pairs h costs clear → IsWaited clear waited (k.setting.wait_shut h) weight (k.request.until - b.minutes)
          → IsCleared k now.pairs h waited offer → IsOffer k now h offer
      offer_waited bound rated is_bound source first waiting second = record {
        reached = λ t x is. reached t x (second.kept t x is);
        comes = λ t x is. comes t x is;
        waits = λ t x q is step. goes t x q is step;
        clear = second.clear;
      }
        where
          reached : (t x : ℕ) → waited t ≡ Some x → Reaches k (point h t x)
          reached t x is =
              let w = waiting.found t x is in
              let s = w.1 in
              let y = w.2 in
              let r = source.reached s y (first.kept s y w.5) in
              let late : s + (t - s) ≤ k.request.until = omega (arith, w.0, w.3) in
              let opens : IsWaitOpen k.setting h s (t - s) = λ u after before. w.4 u after (omega (arith, before, w.3)) in
              let walk = waits k.setting k.request.until (t - s) h s y weight rated opens late in (
                r.0 ++ replicate (t - s) wait,
                walk-append k.setting k.request.until r.0 (replicate (t - s) wait) (start_of k.request) (point h s y) (point h t x) r.1
                    (subst (λ p. Walks k.setting k.request.until (replicate (t - s) wait) (point h s y) p)
                    (same_position _ _ refl (omega (arith, w.3)) (omega (arith, w.6))) walk),
              )

          step_of : (t x : ℕ) → t + 1 ≤ k.request.until → k.setting.wait_shut h t ≡ false
              → Waits k.setting k.request.until (point h t x) (point h (t + 1) (x + weight))
          step_of t x le opens = record { weight = weight; rated = rated; is_open = opens; in_time = le; node = refl; minute = refl; cost = refl }

          comes : (t x : ℕ) → offer t ≡ Some x → (IsStart k.request (point h t x) ⊎ ComesBy k now.cost (point h t x))
              ⊎ ((e : Position) × (u y : ℕ) × (offer u ≡ Some y) × Waits k.setting k.request.until (point h u y) e × (e.minute ≡ t) × (e.cost ≤ x))
          comes t x is =
              let w = waiting.found t x (second.kept t x is) in
              let s = w.1 in
              let y = w.2 in
              ⊎_elim
              (λ (later : s < t).
              let before = waiting.least s y (t - 1) w.5 (omega arith) (omega (arith, w.0)) (λ u after early. w.4 u after (omega (arith, early))) in
              let le : before.0 + weight ≤ x = omega (arith, before.2, w.6, one_less weight s t later) in
              let move = step_of (t - 1) before.0 (omega (arith, w.0, later)) (w.4 (t - 1) (omega (arith, later)) (omega (arith, later))) in
              let same : t - 1 + 1 ≡ t = omega (arith, later) in
              ⊎_elim
              (λ (there : offer (t - 1) ≡ Some before.0). inr (point h (t - 1 + 1) (before.0 + weight), t - 1, before.0, there, move, same, le))
              (λ (e : IsPrunable k now.pairs (point h (t - 1) before.0)).
              absurd (second.clear t x is (prunable_dearer k now.pairs h t (before.0 + weight) x le
              (subst (λ n. IsPrunable k now.pairs (point h n (before.0 + weight))) same
              (prunable_moves k now.pairs bound wait (point h (t - 1) before.0) (point h (t - 1 + 1) (before.0 + weight)) move e)))))
              (second.left (t - 1) before.0 before.1))
              (λ (now_ : t ≤ s).
              let same : s ≡ t = omega (arith, w.3) in
              inl (source.comes t x y (subst (λ n. costs n ≡ Some y) same (first.kept s y w.5)) (omega (arith, w.6))))
              (cases_lt s t)

          goes : (t x : ℕ) (q : Position) → offer t ≡ Some x → Waits k.setting k.request.until (point h t x) q → HasIn offer q ⊎ IsPrunable k now.pairs q
          goes t x q is step =
              let w = waiting.found t x (second.kept t x is) in
              let s = w.1 in
              let y = w.2 in
              let same : step.weight ≡ weight = cc (step.rated, rated) in
              let cost : q.cost ≡ x + weight = omega (arith, step.cost, same) in
              let minute : q.minute ≡ t + 1 = step.minute in
              ⊎_elim
              (λ (late : k.request.until - b.minutes < t + 1). inr (prunable_late h b q is_bound step.node (omega (arith, late, minute))))
              (λ (early : t + 1 ≤ k.request.until - b.minutes).
              let opens : IsOpenUntil (k.setting.wait_shut h) s (t + 1) = λ u late upto. ⊎_elim
              (λ (before : u < t). w.4 u late before)
              (λ (last : t ≤ u). ap (k.setting.wait_shut h) (let e : u ≡ t = omega (arith, last, upto) in e) ∙ step.is_open)
              (cases_lt u t) in
              let after = waiting.least s y (t + 1) w.5 (omega (arith, w.3)) early opens in
              let le : after.0 ≤ q.cost = omega (arith, after.2, w.6, cost, one_more weight s t w.3) in
              ⊎_elim
              (λ (there : offer (t + 1) ≡ Some after.0). inl (record { least = after.0; is = ap offer minute ∙ there; within = le }))
              (λ (e : IsPrunable k now.pairs (point h (t + 1) after.0)).
              inr (subst (λ p. IsPrunable k now.pairs p) (same_position (point h (t + 1) q.cost) q (sym step.node) (sym minute) refl)
              (prunable_dearer k now.pairs h (t + 1) after.0 q.cost le e)))
              (second.left (t + 1) after.0 after.1))
              (cases_lt (k.request.until - b.minutes) (t + 1))

      pub covers_waited : k.bounds h ≡ Some b → IsCleared k now.pairs h costs clear → IsWaited clear waited (k.setting.wait_shut h) weight
          (k.request.until - b.minutes)
          → IsCleared k now.pairs h waited offer → Covers k now.pairs h costs offer
      covers_waited is_bound first waiting second t x is = ⊎_elim
          (λ (there : clear t ≡ Some x).
          let early = in_time h b t x is_bound (first.clear t x there) in
          let w = waiting.least t x t there (omega arith) (omega (arith, early)) (λ u after before. absurd (omega (arith, after, before))) in
          let none : t - t ≡ 0 = omega arith in
          let zero : weight * (t - t) ≡ 0 = ap (λ n. weight * n) none ∙ omega arith in
          let le : w.0 ≤ x = omega (arith, w.2, zero) in
          ⊎_elim
          (λ (stays : offer t ≡ Some w.0). inl (record { least = w.0; is = stays; within = le }))
          (λ (e : IsPrunable k now.pairs (point h t w.0)). inr (prunable_dearer k now.pairs h t w.0 x le e))
          (second.left t w.0 w.1))
          (λ (e : IsPrunable k now.pairs (point h t x)). inr e)
          (first.left t x is)
