-- Where nothing is pending, the search has found what it is for.
use Rattle.std.proofs.Common.{◌≡◌, ℕ, ◌≤◌, false, List, [], ◌∷◌, get_or, ap, arith}
use Rattle.std.proofs.lemmas.List.{get_or_default}
use Rattle.route_base.specs.Setting.{Setting}
use Rattle.route_base.specs.Itinerary.{Position, Step, Walks}
use Rattle.route_base.specs.Legs.{start_of}
use Rattle.route_base.specs.Relaxing.{AreBounds}
use Rattle.route_base.specs.declared.types.Pair.{Pair}
use Rattle.route_base.proofs.Walking.{moves_forward}
use Rattle.propagation.specs.Found.{IsOptimal, IsJustified}
use Rattle.propagation.specs.Inside.Invariants.{Task, Progress, point, IsResting}
use Rattle.propagation.proofs.Parting.{finished, front}
use Rattle.propagation.proofs.EveryWay.{every_way}

walk_forward : (s : Setting) (until : ℕ) (xs : List Step) (p q : Position) → Walks s until xs p q → p.minute ≤ q.minute
walk_forward s until [] p q walk = omega (arith, ap (λ (w : Position). w.minute) walk)
walk_forward s until (x ∷ xs) p q walk = omega (arith, moves_forward s until x p walk.0 walk.1, walk_forward s until xs walk.0 q walk.2)

module _ (k : Task) (now : Progress) (facts : IsResting k now) (done : (v t : ℕ) → now.pending v t ≡ false) where
  pub optimal_at_end : k.request.depart ≤ k.request.until → AreBounds k.setting k.request.goal.0 k.bounds
      → IsOptimal k.setting k.request now.pairs k.bounds now.cost
  optimal_at_end in_time bound = record {
    front = front k now in_time bound facts done;
    trade = facts.paired.trade;
    in_time = λ i d within.
        let p : Pair = get_or now.pairs i d in
        let known = (facts.paired.achieved p (i, within, get_or_default now.pairs i p d within)).1 in
        let tight = facts.tight (point k.request.goal.0 p.arrival known.least) known.is in
        omega (arith, tight.2);
    complete = finished k now bound facts done;
    ways = every_way k now in_time bound facts done;
  }

  pub justified_at_end : IsJustified k.setting k.request now.pairs k.bounds now.cost
  justified_at_end = record {
    reachable = facts.sound.reached;
    comes = facts.sound.comes;
    begun = λ p is. let r = facts.sound.reached p is in walk_forward k.setting k.request.until r.0 (start_of k.request) p r.1;
    tight = facts.tight;
    achieved = λ p one. (facts.paired.achieved p one).1;
  }
