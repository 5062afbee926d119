-- Back from a pair: no predecessor on a way to it is cheaper than it must be, since its way on would make a better pair.
use Rattle.std.proofs.Common.{◌≡◌, ⊎_elim, ℕ, ◌+◌, ◌≤◌, ◌<◌, true, Option, Some, List, [], ◌∷◌, ◌++◌, refl, sym, ◌∙◌, ap, subst, arith}
use Rattle.std.specs.Prelude.{Contains}
use Rattle.std.proofs.lemmas.Bool.{cases_lt}
use Rattle.std.proofs.lemmas.List.{reverse-append}
use Rattle.route_base.specs.Setting.{Setting}
use Rattle.route_base.specs.Itinerary.{Position, Step, drive, wait, Moves, Walks}
use Rattle.route_base.specs.Front.{IsNoWorse}
use Rattle.route_base.specs.declared.types.Pair.{Pair}
use Rattle.route_base.proofs.Arcs.{TakesTime}
use Rattle.route_base.proofs.Waiting.{same_position}
use Rattle.route_base.proofs.Walking.{along, walk-append, walk-push, moves_later}
use Rattle.front_transport.specs.ParetoFronts.{IsParetoFront, ArrivesBefore}
use Rattle.propagation.specs.Inside.Invariants.{Progress, point}
use Rattle.state_dominance.specs.Inside.Dominance.{Task, Reaches, IsAchievedIn, IsStart, ComesBy, IsPairKnown, IsResting}
use Rattle.ruled_states.specs.Inside.Codes.{base}
use Rattle.ruled_states.specs.declared.table.Info.{Info}
use Rattle.ruled_search.specs.Routes.{TellsSteps}
use Rattle.ruled_search.specs.Inside.Sources.{AreFirstSteps, ComesFrom, ComesOver, LeadsToEnd, place_of}
use Rattle.ruled_search.specs.declared.routes.RuledLeg.{RuledLeg}
use Rattle.ruled_search.specs.declared.sources.Source.{Source}
use Rattle.ruled_search.specs.declared.sources.Spot.{Spot}
use Rattle.ruled_search.proofs.FirstSteps.{first_append}

module _ (s : Setting) (until : ℕ) where
  -- the same step from another cost
  pub step_at : (x : Step) (p q : Position) (y : ℕ) → Moves s until x p q
      → (c : ℕ) × (c + p.cost ≡ q.cost + y) × Moves s until x (point p.node p.minute y) (point q.node q.minute c)
  step_at (drive a) p q y move = (
    y + move.road.cost,
    omega (arith, move.cost),
    record {
      road = move.road;
      is = move.is;
      tail = move.tail;
      is_open = move.is_open;
      in_time = move.in_time;
      node = move.node;
      minute = move.minute;
      cost = refl;
    },
  )
  step_at wait p q y move = (
    y + move.weight,
    omega (arith, move.cost),
    record {
      weight = move.weight;
      rated = move.rated;
      is_open = move.is_open;
      in_time = move.in_time;
      node = move.node;
      minute = move.minute;
      cost = refl;
    },
  )

  -- the same walk from another cost
  pub walk_at : (xs : List Step) (p q : Position) (y : ℕ) → Walks s until xs p q
      → (c : ℕ) × (c + p.cost ≡ q.cost + y) × Walks s until xs (point p.node p.minute y) (point q.node q.minute c)
  walk_at [] p q y walk =
      (y, omega (arith, ap (λ (w : Position). w.cost) walk), ap (λ (w : Position). point w.node w.minute y) walk)
  walk_at (x ∷ xs) p q y walk =
      let one = step_at x p walk.0 y walk.1 in
      let more = walk_at xs walk.0 q one.0 walk.2 in
      (more.0, omega (arith, one.1, more.1), (point walk.0.node walk.0.minute one.0, one.2, more.2))

module _ (k : Task) (now : Progress) (front : IsParetoFront IsNoWorse ArrivesBefore (IsAchievedIn k) now.pairs) (facts : IsResting k now)
    (pair : Pair) (one : Contains now.pairs pair) where
  -- from where the way to the pair goes on no cost is reached that is lower
  pub none_cheaper : (g : ℕ) → k.goal g ≡ true → (steps : List Step) (p : Position)
      → Walks k.setting k.until steps p (point g pair.arrival pair.cost) → (y : ℕ) → Reaches k (point p.node p.minute y) → p.cost ≤ y
  none_cheaper g goal steps p walk y reach = ⊎_elim
      (λ (less : y < p.cost).
      let on = walk_at k.setting k.until steps p (point g pair.arrival pair.cost) y walk in
      let other : Pair = record { arrival = pair.arrival; cost = on.0 } in
      let can : IsAchievedIn k other = record {
        node = g;
        goal = goal;
        reached = (
          reach.0 ++ steps,
          walk-append k.setting k.until reach.0 steps k.start (point p.node p.minute y) (point g pair.arrival on.0) reach.1 on.2,
        );
      } in
      let cheap : on.0 < pair.cost = omega (arith, less, on.1) in
      absurd (((front.each pair).0 one).1 other can ((omega arith, omega (arith, cheap)), λ same. omega (arith, cheap, ap (λ (w : Pair). w.cost) same))))
      (λ (most : p.cost ≤ y). most)
      (cases_lt y p.cost)

  -- the pair's cost is known at an end
  pub end_known : (a : IsPairKnown k now pair) → now.cost a.node pair.arrival ≡ Some pair.cost
  end_known a =
      let most = none_cheaper a.node a.goal [] (point a.node pair.arrival pair.cost) refl a.known.least
      (facts.reached (point a.node pair.arrival a.known.least) a.known.is) in
      let same : a.known.least ≡ pair.cost = omega (arith, most, a.known.within) in
      a.known.is ∙ ap (λ (n : ℕ). Some n) same

  -- what is known on a way to the pair is the start's, or comes exactly from what is known
  pub source_known : (g : ℕ) → k.goal g ≡ true → (steps : List Step) (p : Position)
      → Walks k.setting k.until steps p (point g pair.arrival pair.cost) → now.cost p.node p.minute ≡ Some p.cost → (IsStart k p → ⊥)
      → (step : Step) × (source : Position) × ComesOver k now.cost step source p
  source_known g goal steps p walk known later = ⊎_elim
      (λ (start : IsStart k p). absurd (later start))
      (λ (h : ComesBy k now.cost p).
      let from : Position = point h.source.node h.source.minute h.known.least in
      let on = step_at k.setting k.until h.step h.source h.end h.known.least h.move in
      let reach = facts.reached from h.known.is in
      let at : point h.end.node h.end.minute on.0 ≡ point p.node p.minute on.0 = same_position _ _ h.node h.minute refl in
      let move : Moves k.setting k.until h.step from (point p.node p.minute on.0) = subst (λ (w : Position). Moves k.setting k.until h.step from w) at on.2 in
      let most = none_cheaper g goal steps p walk on.0
      (reach.0 ++ h.step ∷ [], walk-push k.setting k.until reach.0 h.step k.start from (point p.node p.minute on.0) reach.1 move) in
      let exact : on.0 ≡ p.cost = omega (arith, most, on.1, h.within, h.known.within) in (
        h.step,
        from,
        record {
          known = h.known.is;
          move = subst (λ (w : Position). Moves k.setting k.until h.step from w) (same_position _ _ refl refl exact) move;
        },
      ))
      (facts.comes p known)

-- what is reached at the start's node and minute is the start
pub start_is : (k : Task) → TakesTime k.setting → (p : Position) → Reaches k p → IsStart k p → k.start ≡ p
start_is k takes p ([], walk) start = walk
start_is k takes p (x ∷ xs, walk) start =
    let first = moves_later k.setting k.until takes x k.start walk.0 walk.1 in
    let last = along k.setting k.until (λ w. walk.0.minute ≤ w.minute)
    (λ z u v le move. omega (arith, le, moves_later k.setting k.until takes z u v move)) xs walk.0 p (omega arith) walk.2 in
    absurd (omega (arith, first, last, start.1))

-- one leg more, before the others
pub leads_before : (k : Task) (infos : List Info) (cost : ℕ → ℕ → Option ℕ) (back : List RuledLeg) (spot : Spot) (end : Position) (source : Source)
    → (c : ComesFrom k infos cost spot source) → AreFirstSteps k cost c.steps (place_of source.from) (place_of spot) → LeadsToEnd k cost back spot end
    → LeadsToEnd k cost (back ++ source.leg ∷ []) source.from end
leads_before k infos cost back spot end source c first leads = record {
  steps = c.steps ++ leads.steps;
  tells = subst (λ w. TellsSteps base w (c.steps ++ leads.steps)) (sym (reverse-append back (source.leg ∷ [])))
      (c.steps, leads.steps, refl, c.tells, leads.tells);
  first = first_append k cost c.steps leads.steps (place_of source.from) (place_of spot) end first leads.first;
}
