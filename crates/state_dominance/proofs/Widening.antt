-- What drives of a part end with, pruned and waited on, is an offer before the dominated is left out; and each drive is covered.
use Rattle.std.proofs.Common.{◌≡◌, ◌⊎◌, inl, inr, ⊎_elim, ℕ, ◌+◌, ◌-◌, ◌*◌, ◌≤◌, ◌<◌, true, false, Option, Some, None, [], ◌∷◌, ◌++◌, replicate, refl, sym, ◌∙◌, ap, subst, arith}
use Rattle.std.proofs.lemmas.Bool.{cases_lt, cases_eq}
use Rattle.route_base.specs.Itinerary.{Position, drive, wait, Waits, Walks}
use Rattle.route_base.proofs.Waiting.{same_position, waits}
use Rattle.route_base.proofs.Walking.{walk-append, walk-push}
use Rattle.propagation.specs.Inside.Invariants.{Progress, point, HasIn, IsBlank, IsWorseOrLate}
use Rattle.propagation.specs.Inside.Offers.{IsOpenUntil}
use Rattle.state_dominance.specs.Inside.Dominance.{Task, IsSimulation, AreBoundsAlong, Reaches, IsStart, ComesBy, IsPrunable}
use Rattle.state_dominance.specs.Inside.Taking.{IsWide, IsFrom, IsOffer, IsFirstOffer}
use Rattle.state_dominance.specs.Inside.Widening.{IsKnownPart, IsDriven, IsSource, IsStartAlone, IsCleared, IsWaitedOn, IsClosed}
use Rattle.state_dominance.proofs.Pruned.{prunable_moves, prunable_worse}

module _ (k : Task) (now : Progress) (sim : IsSimulation k) (h : ℕ) where
  prunable_dearer : (t x y : ℕ) → x ≤ y → IsPrunable k now.pairs (point h t x) → IsPrunable k now.pairs (point h t y)
  prunable_dearer t x y le = prunable_worse k sim now.pairs (point h t x) (point h t y) (record { node = sim.same h; minute = refl; cost = le })

  -- a clear cost is in the offer before the dominated is left out
  pub clear_wide : (clear wide : ℕ → Option ℕ) → IsClosed k now.pairs h clear wide → (t x : ℕ) → clear t ≡ Some x → HasIn wide (point h t x) ⊎ IsPrunable k now.pairs (point h t x)
  clear_wide clear wide closed t x is = ⊎_elim
      (λ (plain : (k.setting.weight h ≡ None) × ((u : ℕ) → wide u ≡ clear u)).
      inl (record { least = x; is = plain.1 t ∙ is; within = omega arith }))
      (λ (one : (weight : ℕ) × IsWaitedOn k now.pairs h weight clear wide).
      let on = one.1 in
      ⊎_elim
      (λ (out : k.latest h - on.bound.minutes < t). inr (subst (λ o. IsWorseOrLate (k.latest h) now.pairs o (point h t x))
      (sym on.has_bound) (inl (omega (arith, out)))))
      (λ (in_reach : t ≤ k.latest h - on.bound.minutes).
      let b = on.waited.least t x t is (omega arith) in_reach (λ u early late. absurd (omega (arith, early, late))) in
      let none : t - t ≡ 0 = omega arith in
      let le : b.0 ≤ x = omega (arith, b.2, ap (λ n. one.0 * n) none) in
      ⊎_elim
      (λ (there : wide t ≡ Some b.0). inl (record { least = b.0; is = there; within = le }))
      (λ (p : IsPrunable k now.pairs (point h t b.0)). inr (prunable_dearer t b.0 x le p))
      (on.cleared.left t b.0 b.1))
      (cases_lt (k.latest h - on.bound.minutes) t))
      closed

module _ (k : Task) (now : Progress) (sim : IsSimulation k) (bound : AreBoundsAlong k) (h : ℕ) (costs clear wide : ℕ → Option ℕ)
    (source : IsSource k now h costs) (first : IsCleared k now.pairs h costs clear) where
  reached_clear : (t x : ℕ) → clear t ≡ Some x → Reaches k (point h t x)
  reached_clear t x is = source.reached t x (first.kept t x is)

  comes_clear : (t x y : ℕ) → clear t ≡ Some y → y ≤ x → IsStart k (point h t x) ⊎ ComesBy k now.cost (point h t x)
  comes_clear t x y is le = source.comes t x y (first.kept t y is) le

  module _ (weight : ℕ) (on : IsWaitedOn k now.pairs h weight clear wide) where
    one_wait : (t x : ℕ) → k.setting.wait_shut h t ≡ false → t + 1 ≤ k.until → Waits k.setting k.until (point h t x) (point h (t + 1) (x + weight))
    one_wait t x opens in_time =
        record { weight = weight; rated = on.rated; is_open = opens; in_time = in_time; node = refl; minute = refl; cost = refl }

    reached_wide : (t x : ℕ) → wide t ≡ Some x → Reaches k (point h t x)
    reached_wide t x is =
        let f = on.waited.found t x (on.cleared.kept t x is) in
        let s = f.1 in
        let y = f.2 in
        let r = reached_clear s y f.5 in
        let n : ℕ = t - s in
        let whole : s + n ≡ t = omega (arith, f.3) in
        let paid = f.6 in (
          r.0 ++ replicate n wait,
          walk-append k.setting k.until r.0 (replicate n wait) k.start (point h s y) (point h t x) r.1
              (subst (λ (w : Position). Walks k.setting k.until (replicate n wait) (point h s y) w)
              (same_position (point h (s + n) (y + n * weight)) (point h t x) refl whole (omega (arith, paid)))
              (waits k.setting k.until n h s y weight on.rated (λ u early late. f.4 u early (omega (arith, late, whole))) (omega (arith, whole, f.0, bound.low h)))),
        )

    -- a waiting cost comes from the minute before
    comes_wide : (t x : ℕ) → wide t ≡ Some x → IsFrom k now h wide t x
    comes_wide t x is =
        let f = on.waited.found t x (on.cleared.kept t x is) in
        let s = f.1 in
        let y = f.2 in
        let paid = f.6 in
        ⊎_elim
        (λ (later : s < t).
        let e : ℕ = t - 1 in
        let next : e + 1 ≡ t = omega (arith, later) in
        let opens : IsOpenUntil (k.setting.wait_shut h) s e = λ u early late. f.4 u early (omega (arith, late)) in
        let b = on.waited.least s y e f.5 (omega (arith, later)) (omega (arith, f.0)) opens in
        let minutes : t - s ≡ (e - s) + 1 = omega (arith, later) in
        let scaled = ap (λ n. weight * n) minutes in
        let le : b.0 + weight ≤ x = omega (arith, b.2, paid, scaled) in
        let move = one_wait e b.0 (f.4 e (omega (arith, later)) (omega (arith, later))) (omega (arith, next, f.0, bound.low h)) in
        ⊎_elim
        (λ (there : wide e ≡ Some b.0). inr (record {
          end = point h (e + 1) (b.0 + weight);
          minute = e;
          cost = b.0;
          offered = there;
          move = move;
          at = next;
          within = le;
        }))
        (λ (p : IsPrunable k now.pairs (point h e b.0)). absurd (on.cleared.clear t x is
        (subst (λ n. IsPrunable k now.pairs (point h n x)) next
        (prunable_dearer k now sim h (e + 1) (b.0 + weight) x le (prunable_moves k bound now.pairs wait (point h e b.0) (point h (e + 1) (b.0 + weight)) move p)))))
        (on.cleared.left e b.0 b.1))
        (λ (now_or : t ≤ s).
        let same : s ≡ t = omega (arith, now_or, f.3) in
        inl (subst (λ n. IsStart k (point h n x) ⊎ ComesBy k now.cost (point h n x)) same (comes_clear s x y f.5 (omega (arith, paid)))))
        (cases_lt s t)

    waits_wide : (t x : ℕ) (q : Position) → wide t ≡ Some x → Waits k.setting k.until (point h t x) q → HasIn wide q ⊎ IsPrunable k now.pairs q
    waits_wide t x q is move =
        let f = on.waited.found t x (on.cleared.kept t x is) in
        let s = f.1 in
        let y = f.2 in
        let paid = f.6 in
        let same_weight : move.weight ≡ weight = weights (move.weight) (sym move.rated ∙ on.rated) in
        ⊎_elim
        (λ (out : k.latest h - on.bound.minutes < t + 1). inr (subst (λ o. IsWorseOrLate (k.latest q.node) now.pairs o q)
        (sym (ap k.bounds move.node ∙ on.has_bound)) (inl (omega (arith, out, move.minute, ap k.latest move.node)))))
        (λ (in_reach : t + 1 ≤ k.latest h - on.bound.minutes).
        let opens : IsOpenUntil (k.setting.wait_shut h) s (t + 1) = λ u early late. ⊎_elim
        (λ (before : u < t). f.4 u early before)
        (λ (here : t ≤ u). ap (k.setting.wait_shut h) (omega (arith, here, late)) ∙ move.is_open)
        (cases_lt u t) in
        let b = on.waited.least s y (t + 1) f.5 (omega (arith, f.3)) in_reach opens in
        let minutes : t + 1 - s ≡ (t - s) + 1 = omega (arith, f.3) in
        let scaled = ap (λ n. weight * n) minutes in
        let le : b.0 ≤ q.cost = omega (arith, b.2, paid, scaled, move.cost, same_weight) in
        ⊎_elim
        (λ (there : wide (t + 1) ≡ Some b.0). inl (record { least = b.0; is = ap wide move.minute ∙ there; within = le }))
        (λ (p : IsPrunable k now.pairs (point h (t + 1) b.0)). inr (prunable_worse k sim now.pairs (point h (t + 1) b.0) q
        (record { node = subst (λ n. k.no_worse h n ≡ true) (sym move.node) (sim.same h); minute = sym move.minute; cost = le }) p))
        (on.cleared.left (t + 1) b.0 b.1))
        (cases_lt (k.latest h - on.bound.minutes) (t + 1))
      where
        weights : (w : ℕ) → Some w ≡ Some weight → w ≡ weight
        weights w same = cc

    pub waited_wide : IsWide k now h wide
    waited_wide = record { reached = reached_wide; comes = comes_wide; waits = waits_wide; clear = on.cleared.clear }

  -- where no one may wait
  plain_wide : k.setting.weight h ≡ None → ((t : ℕ) → wide t ≡ clear t) → IsWide k now h wide
  plain_wide unrated same = record {
    reached = λ t x is. reached_clear t x (sym (same t) ∙ is);
    comes = λ t x is. inl (comes_clear t x x (sym (same t) ∙ is) (omega arith));
    waits = λ t x q is move. let bad : None ≡ Some move.weight = sym unrated ∙ move.rated in cc;
    clear = λ t x is. first.clear t x (sym (same t) ∙ is);
  }

  pub closed_wide : IsClosed k now.pairs h clear wide → IsWide k now h wide
  closed_wide closed = ⊎_elim
      (λ (plain : (k.setting.weight h ≡ None) × ((t : ℕ) → wide t ≡ clear t)). plain_wide plain.0 plain.1)
      (λ (on : (weight : ℕ) × IsWaitedOn k now.pairs h weight clear wide). waited_wide on.0 on.1)
      closed

-- what drives of a known part end with is a source
pub driven_source : (k : Task) (now : Progress) (a v h : ℕ) (part ends : ℕ → Option ℕ) → IsKnownPart k now v part → IsDriven k a v part h ends
    → IsSource k now h ends
driven_source k now a v h part ends known driven = record {
  reached = λ t x is.
      let f = driven.from t x is in
      let r = known.reached f.0 f.1 f.2 in
      (r.0 ++ drive a ∷ [], walk-push k.setting k.until r.0 (drive a) k.start (point v f.0 f.1) (point h t x) r.1 f.3);
  comes = λ t x y is le.
      let f = driven.from t y is in
      inr (record {
        step = drive a;
        source = point v f.0 f.1;
        end = point h t y;
        move = f.3;
        node = refl;
        minute = refl;
        within = le;
        known = known.known f.0 f.1 f.2;
      });
}

module _ (k : Task) (now : Progress) (costs : ℕ → Option ℕ) (alone : IsStartAlone k costs) where
  pub at_start : (t x : ℕ) → costs t ≡ Some x → (t ≡ k.start.minute) × (x ≡ k.start.cost)
  at_start t x is = ⊎_elim
      (λ (same : t ≡ k.start.minute). (same, some_same x k.start.cost (sym is ∙ (ap costs same ∙ alone.here))))
      (λ (other : t ≡ k.start.minute → ⊥). let bad : None ≡ Some x = sym (alone.elsewhere t other) ∙ is in cc)
      (cases_eq t k.start.minute)
    where
      some_same : (x y : ℕ) → Some x ≡ Some y → x ≡ y
      some_same x y is = cc

  -- the cost of the start, alone, is a source
  pub start_source : IsSource k now k.start.node costs
  start_source = record {
    reached = λ t x is. let at = at_start t x is in ([], same_position k.start (point k.start.node t x) refl (sym at.0) (sym at.1));
    comes = λ t x y is le. inl (refl, (at_start t y is).0);
  }

  module _ (sim : IsSimulation k) (bound : AreBoundsAlong k) (clear wide : ℕ → Option ℕ) (first : IsCleared k now.pairs k.start.node costs clear)
      (closed : IsClosed k now.pairs k.start.node clear wide) where
    -- where it is wide it is an offer
    pub start_offer : IsOffer k now k.start.node wide
    start_offer =
        let all = closed_wide k now sim bound k.start.node costs clear wide start_source first closed in
        record {
          reached = all.reached;
          comes = all.comes;
          waits = λ away t x q is step. ⊎_elim
              (λ (i : HasIn wide q). inl i)
              (λ (e : IsPrunable k now.pairs q). inr (inr e))
              (all.waits t x q is step);
        }

    pub start_first : IsBlank now → IsFirstOffer k now k.start.node wide
    start_first blank = record {
      cost = blank.cost;
      idle = blank.pending;
      pairs = blank.pairs;
      start = ⊎_elim
          (λ (there : clear k.start.minute ≡ Some k.start.cost). ⊎_elim
          (λ (i : HasIn wide k.start). inl (refl, i.is ∙ ap Some (exact i.least i.is)))
          (λ (e : IsPrunable k now.pairs k.start). inr e)
          (clear_wide k now sim k.start.node clear wide closed k.start.minute k.start.cost there))
          (λ (e : IsPrunable k now.pairs k.start). inr e)
          (first.left k.start.minute k.start.cost alone.here);
    }
      where
        exact : (x : ℕ) → wide k.start.minute ≡ Some x → x ≡ k.start.cost
        exact x is = ⊎_elim
            (λ (plain : (k.setting.weight k.start.node ≡ None) × ((t : ℕ) → wide t ≡ clear t)).
            (at_start k.start.minute x (first.kept k.start.minute x (sym (plain.1 k.start.minute) ∙ is))).1)
            (λ (on : (weight : ℕ) × IsWaitedOn k now.pairs k.start.node weight clear wide).
            let f = on.1.waited.found k.start.minute x (on.1.cleared.kept k.start.minute x is) in
            let at = at_start f.1 f.2 (first.kept f.1 f.2 f.5) in
            let none : k.start.minute - f.1 ≡ 0 = omega (arith, at.0) in
            omega (arith, f.6, at.1, ap (λ n. on.0 * n) none))
            closed
