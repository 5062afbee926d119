-- Where nothing is pending, each position of each lawful itinerary of a pair is known, at its cost.
use Rattle.std.proofs.Common.{◌≡◌, ◌⊎◌, inl, inr, ⊎_elim, ℕ, ◌+◌, ◌≤◌, ◌<◌, true, false, Some, None, List, [], ◌∷◌, ◌++◌, refl, sym, ◌∙◌, ap, subst, arith}
use Rattle.std.specs.Prelude.{Contains}
use Rattle.std.proofs.lemmas.Bool.{cases_lt}
use Rattle.route_base.specs.Itinerary.{Position, Step, drive, wait, Moves, Walks}
use Rattle.route_base.specs.Legs.{start_of, end_of}
use Rattle.route_base.specs.Front.{IsAchieved}
use Rattle.route_base.specs.Relaxing.{HasWithin, AreBounds, HasEveryWay}
use Rattle.route_base.specs.declared.types.Pair.{Pair}
use Rattle.route_base.proofs.Covering.{covered}
use Rattle.route_base.proofs.Fronts.{no_worse_one}
use Rattle.route_base.proofs.Walking.{along, cheaper, walk-append, walk_in_time}
use Rattle.propagation.specs.Inside.Invariants.{DrivesRelaxed, InPart, IsLabel, IsPrunable, IsRelaxedIn, IsResting, IsWorseOrLate, Progress, Task}
use Rattle.propagation.specs.Inside.Invariants.{no_part, point}
use Rattle.propagation.specs.Inside.Pairs.{HasBetter}
use Rattle.propagation.proofs.Parting.{finished}
use Rattle.propagation.proofs.Pruning.{prunable_dearer, prunable_moves}

module _ (k : Task) where
  -- a step from a lower cost ends at a lower cost
  step_cheaper : (x : Step) (p q : Position) (least : ℕ) → least < p.cost → Moves k.setting k.request.until x p q
      → (c : ℕ) × (c < q.cost) × Moves k.setting k.request.until x (point p.node p.minute least) (point q.node q.minute c)
  step_cheaper (drive a) p q least lt move =
      let low = cheaper k.setting k.request.until (drive a) p q least (omega (arith, lt)) move in
      let same : low.2.road ≡ move.road = cc (low.2.is, move.is) in
      (low.0, omega (arith, lt, low.2.cost, move.cost, ap (λ w. w.cost) same), low.2)
  step_cheaper wait p q least lt move =
      let low = cheaper k.setting k.request.until wait p q least (omega (arith, lt)) move in
      let same : low.2.weight ≡ move.weight = cc (low.2.rated, move.rated) in
      (low.0, omega (arith, lt, low.2.cost, move.cost, same), low.2)

  -- a walk from a lower cost ends at a lower cost
  walk_cheaper : (xs : List Step) (p q : Position) (least : ℕ) → least < p.cost → Walks k.setting k.request.until xs p q
      → (c : ℕ) × (c < q.cost) × Walks k.setting k.request.until xs (point p.node p.minute least) (point q.node q.minute c)
  walk_cheaper [] p q least lt walk = (
    least,
    omega (arith, lt, ap (λ (w : Position). w.cost) walk),
    ap (λ (w : Position). point w.node w.minute least) walk,
  )
  walk_cheaper (x ∷ xs) p q least lt walk =
      let low = step_cheaper x p walk.0 least lt walk.1 in
      let rest = walk_cheaper xs walk.0 q low.0 low.1 walk.2 in
      (rest.0, rest.1, (point walk.0.node walk.0.minute low.0, low.2, rest.2))

  module _ (now : Progress) (in_time : k.request.depart ≤ k.request.until) (bound : AreBounds k.setting k.request.goal.0 k.bounds)
      (facts : IsResting k now) (done : (v t : ℕ) → now.pending v t ≡ false) where
    -- a step from a known cost is relaxed, or the cost is prunable
    steps_relaxed : (p : Position) → IsLabel now p
        → IsPrunable k now.pairs p ⊎ ((x : Step) (q : Position) → Moves k.setting k.request.until x p q → IsRelaxedIn k now q)
    steps_relaxed p is = ⊎_elim
        (λ (e : IsPrunable k now.pairs p). inl e)
        (λ (rest : (now.pending p.node p.minute ≡ true) ⊎ (InPart 0 no_part p ⊎ DrivesRelaxed k now p)). inr (⊎_elim
        (λ (w : now.pending p.node p.minute ≡ true). let bad : true ≡ false = sym w ∙ done p.node p.minute in cc)
        (λ (more : InPart 0 no_part p ⊎ DrivesRelaxed k now p). ⊎_elim
        (λ (i : InPart 0 no_part p). let bad : None ≡ Some p.cost = i.1 in cc)
        (λ (all : DrivesRelaxed k now p). each all)
        more)
        rest))
        (facts.steps.drives p is)
      where
        each : DrivesRelaxed k now p → (x : Step) (q : Position) → Moves k.setting k.request.until x p q → IsRelaxedIn k now q
        each all (drive a) q step = all a q step
        each all wait q step = facts.steps.waits p q is step

    -- steps lead from what is relaxed to what is relaxed
    relaxed_goes : (x : Step) (p q : Position) → IsRelaxedIn k now p → Moves k.setting k.request.until x p q → IsRelaxedIn k now q
    relaxed_goes x p q landed move = ⊎_elim
        (λ (h : HasWithin now.cost p).
        let less = cheaper k.setting k.request.until x p q h.least h.within move in
        ⊎_elim
        (λ (e : IsPrunable k now.pairs (point p.node p.minute h.least)).
        inr (prunable_moves k now.pairs bound x p q move (prunable_dearer k now.pairs p.node p.minute h.least p.cost h.within e)))
        (λ (each : (y : Step) (w : Position) → Moves k.setting k.request.until y (point p.node p.minute h.least) w → IsRelaxedIn k now w). ⊎_elim
        (λ (n : HasWithin now.cost (point q.node q.minute less.0)). inl (record { least = n.least; is = n.is; within = omega (arith, n.within, less.1) }))
        (λ (e : IsPrunable k now.pairs (point q.node q.minute less.0)). inr (prunable_dearer k now.pairs q.node q.minute less.0 q.cost less.1 e))
        (each x (point q.node q.minute less.0) less.2))
        (steps_relaxed (point p.node p.minute h.least) h.is))
        (λ (e : IsPrunable k now.pairs p). inr (prunable_moves k now.pairs bound x p q move e))
        landed

    -- none of the pairs is better than another
    best : (pair : Pair) → Contains now.pairs pair → (t x : ℕ) → t ≡ pair.arrival → x ≡ pair.cost → HasBetter now.pairs t x → ⊥
    best pair one t x at costs h =
        let same : h.pair ≡ pair = no_worse_one now.pairs h.pair pair facts.paired.trade h.is_one one
        (omega (arith, h.better.arrival, at), omega (arith, h.better.cost, costs)) in
        ⊎_elim
        (λ (early : h.pair.arrival < t). omega (arith, early, at, ap (λ (w : Pair). w.arrival) same))
        (λ (cheap : h.pair.cost < x). omega (arith, cheap, costs, ap (λ (w : Pair). w.cost) same))
        h.better.other

    -- no way to a pair leads through a prunable position
    never_prunable : (pair : Pair) (after : List Step) (p : Position) → Contains now.pairs pair → p.minute ≤ k.request.until
        → Walks k.setting k.request.until after p (end_of k.request pair) → IsPrunable k now.pairs p → ⊥
    never_prunable pair after p one early walk e =
        let end : Position = end_of k.request pair in
        let last = along k.setting k.request.until (IsPrunable k now.pairs) (λ x u v h move. prunable_moves k now.pairs bound x u v move h)
        after p end e walk in
        let late = walk_in_time k.setting k.request.until after p end early walk in
        ⊎_elim
        (λ (over : k.request.until < pair.arrival + 0). omega (arith, over, late))
        (λ (h : HasBetter now.pairs (pair.arrival + 0) (pair.cost + 0)). best pair one (pair.arrival + 0) (pair.cost + 0) (omega arith) (omega arith) h)
        (subst (λ o. IsWorseOrLate k.request.until now.pairs o end) bound.goal last)

    pub every_way : HasEveryWay k.setting k.request now.pairs now.cost
    every_way pair before after p one to_p from_p =
        let early = walk_in_time k.setting k.request.until before (start_of k.request) p in_time to_p in
        ⊎_elim
        (λ (h : HasWithin now.cost p). ⊎_elim
        (λ (low : h.least < p.cost).
        let rest = walk_cheaper after p (end_of k.request pair) h.least low from_p in
        let reached = facts.sound.reached (point p.node p.minute h.least) h.is in
        let cheap : Pair = record { arrival = pair.arrival; cost = rest.0 } in
        let can : IsAchieved k.setting k.request cheap = record {
          in_time = in_time;
          steps = reached.0 ++ after;
          walk = walk-append k.setting k.request.until reached.0 after (start_of k.request) (point p.node p.minute h.least)
              (end_of k.request cheap) reached.1 rest.2;
        } in
        let had = covered k.setting k.request now.pairs k.bounds now.cost (finished k now bound facts done) cheap can in
        absurd (best pair one pair.arrival pair.cost refl refl (record {
          pair = had.pair;
          is_one = had.is_one;
          better = record { arrival = had.arrival; cost = omega (arith, had.cost, rest.1); other = inr (omega (arith, had.cost, rest.1)) };
        })))
        (λ (high : p.cost ≤ h.least). let same : h.least ≡ p.cost = omega (arith, high, h.within) in h.is ∙ ap (λ n. Some n) same)
        (cases_lt h.least p.cost))
        (λ (e : IsPrunable k now.pairs p). absurd (never_prunable pair after p one early from_p e))
        (along k.setting k.request.until (IsRelaxedIn k now) relaxed_goes before (start_of k.request) p facts.start to_p)
