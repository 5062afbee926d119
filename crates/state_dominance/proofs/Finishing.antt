-- Where nothing is pending, each walk to the goal has a pair, so that the pairs are the front; and the best ways to the pairs are known.
use Rattle.std.proofs.Common.{◌≡◌, ◌⊎◌, inl, inr, ⊎_elim, ℕ, zero, suc, ◌+◌, ◌≤◌, ◌<◌, true, false, Some, None, List, [], ◌∷◌, ◌++◌, length, refl, sym, ◌∙◌, ap, subst, arith}
use Rattle.std.specs.Prelude.{Contains}
use Rattle.std.proofs.lemmas.Bool.{cases_eq}
use Rattle.route_base.specs.Itinerary.{Position, Step, drive, wait, Moves, Walks}
use Rattle.route_base.specs.Front.{IsNoWorse, RiseAndFall}
use Rattle.route_base.specs.Relaxing.{HasPair}
use Rattle.route_base.specs.declared.types.Pair.{Pair}
use Rattle.route_base.proofs.Covering.{pair_later}
use Rattle.route_base.proofs.Fronts.{no_worse_one, same_pair}
use Rattle.route_base.proofs.Walking.{along, cheaper, walk-append, walk_in_time}
use Rattle.front_transport.specs.ParetoFronts.{IsParetoFront, ArrivesBefore}
use Rattle.propagation.specs.Inside.Invariants.{Progress, point, IsLabel, InPart, no_part, IsWorseOrLate}
use Rattle.propagation.specs.Inside.Pairs.{HasBetter}
use Rattle.state_dominance.specs.Inside.Dominance.{Task, IsNoWorseThan, IsSimulation, AreBoundsAlong, Reaches, IsAchievedIn, IsCovered, IsDominated, IsBeaten, IsSurpassed, IsPrunable}
use Rattle.state_dominance.specs.Inside.Dominance.{IsRelaxedIn, DrivesRelaxed, IsDone, IsResting}
use Rattle.state_dominance.proofs.Pruned.{covered_worse, prunable_moves}

-- pairs that rise and fall, are achieved and leave nothing better are the front
pub pareto_front : (CanBe : Pair → Type 0) (pairs : List Pair) → RiseAndFall pairs → ((p : Pair) → Contains pairs p → CanBe p)
    → ((p : Pair) → CanBe p → HasPair pairs p.arrival p.cost) → IsParetoFront IsNoWorse ArrivesBefore CanBe pairs
pareto_front CanBe pairs trade achieved covered = record {
  ordered = λ i j d before within. (trade i j d before within).0;
  each = λ p. (
    (λ one. (achieved p one, undominated p one)),
    (λ best. found p best.0 best.1),
  );
}
  where
    undominated : (p : Pair) → Contains pairs p → (q : Pair) → CanBe q → IsNoWorse q p × (q ≡ p → ⊥) → ⊥
    undominated p one q can dominates =
        let h = covered q can in
        let le : IsNoWorse h.pair p = (omega (arith, h.arrival, dominates.0.0), omega (arith, h.cost, dominates.0.1)) in
        let same : h.pair ≡ p = no_worse_one pairs h.pair p trade h.is_one one le in
        dominates.1 (same_pair q p
        (omega (arith, h.arrival, dominates.0.0, ap (λ (w : Pair). w.arrival) same))
        (omega (arith, h.cost, dominates.0.1, ap (λ (w : Pair). w.cost) same)))

    found : (p : Pair) → CanBe p → ((q : Pair) → CanBe q → IsNoWorse q p × (q ≡ p → ⊥) → ⊥) → Contains pairs p
    found p can best =
        let h = covered p can in
        let can_h = achieved h.pair h.is_one in
        ⊎_elim
        (λ (a : h.pair.arrival ≡ p.arrival).
        ⊎_elim
        (λ (c : h.pair.cost ≡ p.cost). subst (λ (w : Pair). Contains pairs w) (same_pair h.pair p a c) h.is_one)
        (λ (c : h.pair.cost ≡ p.cost → ⊥). absurd (best h.pair can_h ((h.arrival, h.cost), λ same. c (ap (λ (w : Pair). w.cost) same))))
        (cases_eq h.pair.cost p.cost))
        (λ (a : h.pair.arrival ≡ p.arrival → ⊥). absurd (best h.pair can_h ((h.arrival, h.cost), λ same. a (ap (λ (w : Pair). w.arrival) same))))
        (cases_eq h.pair.arrival p.arrival)

module _ (k : Task) where
  -- a step from a lower cost ends at a lower cost
  lower_step : (x : Step) (p q : Position) (least : ℕ) → least < p.cost → Moves k.setting k.until x p q
      → (c : ℕ) × (c < q.cost) × Moves k.setting k.until x (point p.node p.minute least) (point q.node q.minute c)
  lower_step (drive a) p q least less move =
      let low = cheaper k.setting k.until (drive a) p q least (omega (arith, less)) move in
      let same : low.2.road ≡ move.road = cc (low.2.is, move.is) in
      (low.0, omega (arith, less, low.2.cost, move.cost, ap (λ w. w.cost) same), low.2)
  lower_step wait p q least less move =
      let low = cheaper k.setting k.until wait p q least (omega (arith, less)) move in
      let same : low.2.weight ≡ move.weight = cc (low.2.rated, move.rated) in
      (low.0, omega (arith, less, low.2.cost, move.cost, same), low.2)

  -- a walk from a lower cost ends at a lower cost
  lower_walk : (xs : List Step) (p q : Position) (least : ℕ) → least < p.cost → Walks k.setting k.until xs p q
      → (c : ℕ) × (c < q.cost) × Walks k.setting k.until xs (point p.node p.minute least) (point q.node q.minute c)
  lower_walk [] p q least less walk = (
    least,
    omega (arith, less, ap (λ (w : Position). w.cost) walk),
    ap (λ (w : Position). point w.node w.minute least) walk,
  )
  lower_walk (x ∷ xs) p q least less walk =
      let low = lower_step x p walk.0 least less walk.1 in
      let rest = lower_walk xs walk.0 q low.0 low.1 walk.2 in
      (rest.0, rest.1, (point walk.0.node walk.0.minute low.0, low.2, rest.2))

  module _ (now : Progress) (sim : IsSimulation k) (bound : AreBoundsAlong k) (facts : IsResting k now)
      (done : (v t : ℕ) → now.pending v t ≡ false) where
    -- a state that is no worse makes the step too
    simulated : (u y : ℕ) (x : Step) (p q : Position) → k.no_worse u p.node ≡ true → y ≤ p.cost → Moves k.setting k.until x p q
        → (z : Step) × (w : Position) × Moves k.setting k.until z (point u p.minute y) w × IsNoWorseThan k w q
    simulated u y (drive a) p q better le move =
        let h = sim.drives u y a p q better le move in
        (drive h.0, h.1, h.2, h.3)
    simulated u y wait p q better le move =
        let h = sim.waits u y p q better le move in
        (wait, h.0, h.1, h.2)

    -- as many steps lead from there to an end that is no worse
    record Follows (u y t count : ℕ) (q : Position) : Type 0 where
      pub steps : List Step
      pub end : Position
      pub walk : Walks k.setting k.until steps (point u t y) end
      pub long : length steps ≡ count
      pub worse : IsNoWorseThan k end q

    followed : (u y : ℕ) (xs : List Step) (p q : Position) → k.no_worse u p.node ≡ true → y ≤ p.cost → Walks k.setting k.until xs p q
        → Follows u y p.minute (length xs) q
    followed u y [] p q better le walk = record {
      steps = [];
      end = point u p.minute y;
      walk = refl;
      long = refl;
      worse = subst (λ (w : Position). IsNoWorseThan k (point u p.minute y) w) walk (record { node = better; minute = refl; cost = le });
    }
    followed u y (x ∷ xs) p q better le walk =
        let h = simulated u y x p walk.0 better le walk.1 in
        let rest = followed h.1.node h.1.cost xs walk.0 q h.3.node h.3.cost walk.2 in
        record {
          steps = h.0 ∷ rest.steps;
          end = rest.end;
          walk = (h.1, h.2, subst (λ t. Walks k.setting k.until rest.steps (point h.1.node t h.1.cost) rest.end) (sym h.3.minute) rest.walk);
          long = ap suc rest.long;
          worse = rest.worse;
        }

    -- where nothing is pending, a label is prunable, or no more is to be done for its drives
    label_done : (p : Position) → IsLabel now p → IsPrunable k now.pairs p ⊎ IsDone k now p
    label_done p is = ⊎_elim
        (λ (e : IsPrunable k now.pairs p). inl e)
        (λ (rest : (now.pending p.node p.minute ≡ true) ⊎ (InPart 0 no_part p ⊎ IsDone k now p)). ⊎_elim
        (λ (w : now.pending p.node p.minute ≡ true). let bad : true ≡ false = sym w ∙ done p.node p.minute in cc)
        (λ (more : InPart 0 no_part p ⊎ IsDone k now p). ⊎_elim
        (λ (i : InPart 0 no_part p). let bad : None ≡ Some p.cost = i.1 in cc)
        (λ (d : IsDone k now p). inr d)
        more)
        rest)
        (facts.drives p is)

    step_relaxed : (x : Step) (p q : Position) → IsLabel now p → DrivesRelaxed k now p → Moves k.setting k.until x p q → IsRelaxedIn k now q
    step_relaxed (drive a) p q is all step = all a q step
    step_relaxed wait p q is all step = facts.waits p q is step

    -- some pair is better than a walk from what is prunable to the goal
    better_pair : (xs : List Step) (p q : Position) → k.goal q.node ≡ true → q.minute ≤ k.until → Walks k.setting k.until xs p q
        → IsPrunable k now.pairs p → HasBetter now.pairs q.minute q.cost
    better_pair xs p q goal in_time walk out =
        let last : IsPrunable k now.pairs q = along k.setting k.until (IsPrunable k now.pairs)
        (λ x u w excused move. prunable_moves k bound now.pairs x u w move excused) xs p q out walk in
        ⊎_elim
        (λ (over : k.latest q.node < q.minute + 0). absurd (omega (arith, over, in_time, bound.last q.node goal)))
        (λ (had : HasBetter now.pairs (q.minute + 0) (q.cost + 0)). record {
          pair = had.pair;
          is_one = had.is_one;
          better = record {
            arrival = omega (arith, had.better.arrival);
            cost = omega (arith, had.better.cost);
            other = ⊎_elim
                (λ (early : had.pair.arrival < q.minute + 0). inl (omega (arith, early)))
                (λ (cheap : had.pair.cost < q.cost + 0). inr (omega (arith, cheap)))
                had.better.other;
          };
        })
        (subst (λ o. IsWorseOrLate (k.latest q.node) now.pairs o q) (bound.goal q.node goal) last)

    -- each walk of fewer steps from a label to the goal has a pair that is no worse
    abbrev IsPaired : ℕ → Type 0
    IsPaired n = (xs : List Step) (p q : Position) → length xs < n → IsLabel now p → k.goal q.node ≡ true → q.minute ≤ k.until
        → Walks k.setting k.until xs p q → HasPair now.pairs q.minute q.cost

    covered_paired : (n : ℕ) → IsPaired n → (xs : List Step) (p q : Position) → length xs < n → IsCovered k now p → k.goal q.node ≡ true
        → q.minute ≤ k.until → Walks k.setting k.until xs p q → HasPair now.pairs q.minute q.cost
    covered_paired n paired xs p q few h goal in_time walk =
        let f = followed h.node h.known.least xs p q h.better h.known.within walk in
        pair_later now.pairs f.end.minute f.end.cost q.minute q.cost (omega (arith, f.worse.minute)) f.worse.cost
        (paired f.steps (point h.node p.minute h.known.least) f.end (omega (arith, f.long, few)) h.known.is
        (sim.goals f.end.node q.node f.worse.node goal) (omega (arith, f.worse.minute, in_time)) f.walk)

    relaxed_paired : (n : ℕ) → IsPaired n → (xs : List Step) (p q : Position) → length xs < n → IsRelaxedIn k now p → k.goal q.node ≡ true
        → q.minute ≤ k.until → Walks k.setting k.until xs p q → HasPair now.pairs q.minute q.cost
    relaxed_paired n paired xs p q few landed goal in_time walk = ⊎_elim
        (λ (h : IsCovered k now p). covered_paired n paired xs p q few h goal in_time walk)
        (λ (e : IsPrunable k now.pairs p). let had = better_pair xs p q goal in_time walk e in
        record { pair = had.pair; is_one = had.is_one; arrival = had.better.arrival; cost = had.better.cost })
        landed

    -- a label is paired by the next step, by a later one at which it is beaten, or by a label of a lower code
    label_paired : (n : ℕ) → IsPaired n → (m : ℕ) (xs : List Step) (p q : Position) → p.node < m → length xs < suc n → IsLabel now p
        → k.goal q.node ≡ true → q.minute ≤ k.until → Walks k.setting k.until xs p q → HasPair now.pairs q.minute q.cost
    label_paired n paired zero xs p q low few is goal in_time walk = absurd (omega (arith, low))
    label_paired n paired (suc m) xs p q low few is goal in_time walk = ⊎_elim
        (λ (e : IsPrunable k now.pairs p). let had = better_pair xs p q goal in_time walk e in
        record { pair = had.pair; is_one = had.is_one; arrival = had.better.arrival; cost = had.better.cost })
        (λ (d : IsDone k now p). ⊎_elim
        (λ (w : IsDominated k now p).
        let f = followed w.node w.known.least xs p q w.better w.known.within walk in
        pair_later now.pairs f.end.minute f.end.cost q.minute q.cost (omega (arith, f.worse.minute)) f.worse.cost
        (label_paired n paired m f.steps (point w.node p.minute w.known.least) f.end (omega (arith, w.other, low)) (omega (arith, f.long, few)) w.known.is
        (sim.goals f.end.node q.node f.worse.node goal) (omega (arith, f.worse.minute, in_time)) f.walk))
        (λ (other : IsSurpassed k now p ⊎ DrivesRelaxed k now p). ⊎_elim
        (λ (all : IsSurpassed k now p).
        let b = all xs q goal walk in
        let known : IsCovered k now b.at = record {
          node = b.beaten.node;
          better = b.beaten.better;
          known = record { least = b.beaten.cost; is = b.beaten.known; within = omega (arith, b.beaten.less) };
        } in
        covered_paired n paired b.after b.at q (omega (arith, b.fewer, few)) known goal in_time b.walk)
        (λ (all : DrivesRelaxed k now p). next all xs few walk)
        other)
        d)
        (label_done p is)
      where
        next : DrivesRelaxed k now p → (ys : List Step) → length ys < suc n → Walks k.setting k.until ys p q → HasPair now.pairs q.minute q.cost
        next all [] few same = subst (λ (w : Position). HasPair now.pairs w.minute w.cost) same
            (facts.matched p.node p.minute p.cost (subst (λ (w : Position). k.goal w.node ≡ true) (sym same) goal) is)
        next all (y ∷ ys) few way = relaxed_paired n paired ys way.0 q (omega (arith, few)) (step_relaxed y p way.0 is all way.1) goal in_time way.2

    all_paired : (n : ℕ) → IsPaired n
    all_paired zero xs p q few is goal in_time walk = absurd (omega (arith, few))
    all_paired (suc n) xs p q few is goal in_time walk =
        label_paired n (all_paired n) (p.node + 1) xs p q (omega arith) few is goal in_time walk

    module _ (in_time : k.start.minute ≤ k.until) where
      pub pair_covered : (p : Pair) → IsAchievedIn k p → HasPair now.pairs p.arrival p.cost
      pair_covered p can =
          let end : Position = point can.node p.arrival p.cost in
          let late : p.arrival ≤ k.until = walk_in_time k.setting k.until can.reached.0 k.start end in_time can.reached.1 in
          relaxed_paired (length can.reached.0 + 1) (all_paired (length can.reached.0 + 1)) can.reached.0 k.start end (omega arith) facts.start
          can.goal late can.reached.1

      pub front : IsParetoFront IsNoWorse ArrivesBefore (IsAchievedIn k) now.pairs
      front = pareto_front (IsAchievedIn k) now.pairs facts.trade
          (λ p one. let a = facts.achieved p one in record { node = a.node; goal = a.goal; reached = a.reached })
          pair_covered

      module _ (pair : Pair) (one : Contains now.pairs pair) where
        pair_in_time : pair.arrival ≤ k.until
        pair_in_time =
            let a = facts.achieved pair one in
            walk_in_time k.setting k.until a.reached.0 k.start (point a.node pair.arrival pair.cost) in_time a.reached.1

        -- no pair is no worse but itself
        itself : (other : Pair) → Contains now.pairs other → other.arrival ≤ pair.arrival → other.cost ≤ pair.cost → other ≡ pair
        itself other is early cheap = no_worse_one now.pairs other pair facts.trade is one (early, cheap)

        -- the end is at the goal, at the pair's arrival, and costs no more than it
        record IsEnd (q : Position) : Type 0 where
          pub goal : k.goal q.node ≡ true
          pub arrival : q.minute ≡ pair.arrival
          pub cost : q.cost ≤ pair.cost

        end_follows : (w q : Position) → IsNoWorseThan k w q → IsEnd q → IsEnd w
        end_follows w q worse end = record {
          goal = sim.goals w.node q.node worse.node end.goal;
          arrival = worse.minute ∙ end.arrival;
          cost = omega (arith, worse.cost, end.cost);
        }

        not_prunable : (xs : List Step) (p q : Position) → IsEnd q → Walks k.setting k.until xs p q → IsPrunable k now.pairs p → ⊥
        not_prunable xs p q end walk out =
            let had = better_pair xs p q end.goal (omega (arith, end.arrival, pair_in_time)) walk out in
            let same = itself had.pair had.is_one (omega (arith, had.better.arrival, end.arrival)) (omega (arith, had.better.cost, end.cost)) in
            ⊎_elim
            (λ (early : had.pair.arrival < q.minute). omega (arith, early, end.arrival, ap (λ (w : Pair). w.arrival) same))
            (λ (cheap : had.pair.cost < q.cost). omega (arith, cheap, end.cost, ap (λ (w : Pair). w.cost) same))
            had.better.other

        not_beaten : (xs : List Step) (p q : Position) → IsEnd q → Walks k.setting k.until xs p q → IsBeaten k now p → ⊥
        not_beaten xs p q end walk b =
            let low = lower_walk xs p q b.cost b.less walk in
            let f = followed b.node b.cost xs (point p.node p.minute b.cost) (point q.node q.minute low.0) b.better (omega arith) low.2 in
            let reached = facts.reached (point b.node p.minute b.cost) b.known in
            let can : IsAchievedIn k (record { arrival = f.end.minute; cost = f.end.cost }) = record {
              node = f.end.node;
              goal = sim.goals f.end.node q.node f.worse.node end.goal;
              reached = (reached.0 ++ f.steps, walk-append k.setting k.until reached.0 f.steps k.start (point b.node p.minute b.cost) f.end reached.1 f.walk);
            } in
            let had = pair_covered (record { arrival = f.end.minute; cost = f.end.cost }) can in
            let less : had.pair.cost < pair.cost = omega (arith, had.cost, f.worse.cost, low.1, end.cost) in
            let same = itself had.pair had.is_one (omega (arith, had.arrival, f.worse.minute, end.arrival)) (omega (arith, less)) in
            omega (arith, less, ap (λ (w : Pair). w.cost) same)

        -- on the way to the pair the end of a step is covered, if its begin is so
        step_covered : (m u y : ℕ) (x : Step) (p r : Position) (after : List Step) (q : Position) → u < m → k.no_worse u p.node ≡ true → y ≤ p.cost
            → now.cost u p.minute ≡ Some y → Moves k.setting k.until x p r → IsEnd q → Walks k.setting k.until after r q → IsCovered k now r
        step_covered zero u y x p r after q low better le is move end walk = absurd (omega (arith, low))
        step_covered (suc m) u y x p r after q low better le is move end walk =
            let h = simulated u y x p r better le move in
            let f = followed h.1.node h.1.cost after r q h.3.node h.3.cost walk in
            let rest : Walks k.setting k.until f.steps h.1 f.end =
            subst (λ t. Walks k.setting k.until f.steps (point h.1.node t h.1.cost) f.end) (sym h.3.minute) f.walk in
            let whole : Walks k.setting k.until (h.0 ∷ f.steps) (point u p.minute y) f.end = (h.1, h.2, rest) in
            let last = end_follows f.end q f.worse end in
            ⊎_elim
            (λ (e : IsPrunable k now.pairs (point u p.minute y)). absurd (not_prunable (h.0 ∷ f.steps) (point u p.minute y) f.end last whole e))
            (λ (d : IsDone k now (point u p.minute y)). ⊎_elim
            (λ (w : IsDominated k now (point u p.minute y)). step_covered m w.node w.known.least x p r after q (omega (arith, w.other, low))
            (sim.on w.node u p.node w.better better) (omega (arith, w.known.within, le)) w.known.is move end walk)
            (λ (other : IsSurpassed k now (point u p.minute y) ⊎ DrivesRelaxed k now (point u p.minute y)). ⊎_elim
            (λ (all : IsSurpassed k now (point u p.minute y)). let b = all (h.0 ∷ f.steps) f.end last.goal whole in
            absurd (not_beaten b.after b.at f.end last b.walk b.beaten))
            (λ (all : DrivesRelaxed k now (point u p.minute y)). ⊎_elim
            (λ (c : IsCovered k now h.1). covered_worse k sim now h.1 r h.3 c)
            (λ (e : IsPrunable k now.pairs h.1). absurd (not_prunable f.steps h.1 f.end last rest e))
            (step_relaxed h.0 (point u p.minute y) h.1 is all h.2))
            other)
            d)
            (label_done (point u p.minute y) is)

        walk_covered : (xs : List Step) (p r : Position) (after : List Step) (q : Position) → IsCovered k now p → Walks k.setting k.until xs p r → IsEnd q
            → Walks k.setting k.until after r q → IsCovered k now r
        walk_covered [] p r after q c same end walk = subst (λ (w : Position). IsCovered k now w) same c
        walk_covered (x ∷ xs) p r after q c way end walk = walk_covered xs way.0 r after q
            (step_covered (c.node + 1) c.node c.known.least x p way.0 (xs ++ after) q (omega arith) c.better c.known.within c.known.is way.1 end
            (walk-append k.setting k.until xs after way.0 r q way.2 walk))
            way.2 end walk

        -- each position on the way is covered
        pub covered_on_way : (p : Position) → Reaches k p → (after : List Step) (g : ℕ) → k.goal g ≡ true
            → Walks k.setting k.until after p (point g pair.arrival pair.cost) → IsCovered k now p
        covered_on_way p reach after g goal walk =
            let q : Position = point g pair.arrival pair.cost in
            let end : IsEnd q = record { goal = goal; arrival = refl; cost = omega arith } in
            let start : IsCovered k now k.start = ⊎_elim
            (λ (c : IsCovered k now k.start). c)
            (λ (e : IsPrunable k now.pairs k.start). absurd (not_prunable (reach.0 ++ after) k.start q end
            (walk-append k.setting k.until reach.0 after k.start p q reach.1 walk) e))
            facts.start in
            walk_covered reach.0 k.start p after q start reach.1 end walk

        -- each position there than which none that is reached is better is known with its cost
        pub known_exactly : (p : Position) → Reaches k p → (after : List Step) (g : ℕ) → k.goal g ≡ true
            → Walks k.setting k.until after p (point g pair.arrival pair.cost)
            → ((u x : ℕ) → k.no_worse u p.node ≡ true → x ≤ p.cost → Reaches k (point u p.minute x) → (u ≡ p.node) × (x ≡ p.cost))
            → now.cost p.node p.minute ≡ Some p.cost
        known_exactly p reach after g goal walk best =
            let h = covered_on_way p reach after g goal walk in
            let same = best h.node h.known.least h.better h.known.within (facts.reached (point h.node p.minute h.known.least) h.known.is) in
            ap (λ v. now.cost v p.minute) (sym same.0) ∙ h.known.is ∙ ap (λ (n : ℕ). Some n) same.1
