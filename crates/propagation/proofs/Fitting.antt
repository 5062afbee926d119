-- Costs that fit, and the costs of a part that stay.
use Rattle.std.proofs.Common.{ℕ, Option}
use Rattle.route_base.specs.Legs.{CostsFit}
use Rattle.propagation.proofs.Keeping.{within_kept}
use Rattle.propagation.specs.Inside.Invariants.{Improves, IsSound, Progress, Task, point}
use Rattle.propagation.specs.Inside.Offers.{IsKnownPart}
use Rattle.propagation.specs.Inside.States.{AreCostsSmall}

pub small_costs : (k : Task) (now : Progress) → CostsFit k.setting k.request → IsSound k now → AreCostsSmall now.cost
small_costs k now fit sound v t x is = let r = sound.reached (point v t x) is in fit r.0 (point v t x) r.1

pub part_kept : (k : Task) (old new : Progress) (v : ℕ) (part : ℕ → Option ℕ) → Improves k old new → IsKnownPart k old v part → IsKnownPart k new v part
part_kept k old new v part better holds = record {
  reached = holds.reached;
  known = λ t x is. within_kept k old new (point v t x) better (holds.known t x is);
}
