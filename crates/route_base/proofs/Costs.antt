-- Costs of walks where no minute is dear.
use Rattle.std.proofs.Common.{◌≡◌, ℕ, ◌+◌, ◌*◌, ◌≤◌, Some, arith}
use Rattle.route_base.specs.Setting.{Setting, Road}
use Rattle.route_base.specs.Itinerary.{Position, Step, drive, wait, Moves}
use Rattle.route_base.specs.Legs.{CostsFit, start_of}
use Rattle.route_base.specs.declared.limits.TheConstants.{DEAREST_MINUTE, HEAVIEST_WEIGHT, LONGEST_HORIZON}
use Rattle.route_base.specs.declared.types.Request.{Request}
use Rattle.route_base.proofs.Walking.{along, walk_in_time}

-- no minute, driven or waited, is too dear
pub record IsCheap (s : Setting) : Type 0 where
  pub each_road : (a : ℕ) (road : Road) → s.road a ≡ Some road → road.cost ≤ DEAREST_MINUTE * road.minutes
  pub each_weight : (v weight : ℕ) → s.weight v ≡ Some weight → weight ≤ HEAVIEST_WEIGHT

-- the cost so far is at most that of the minutes so far
IsPaid : ℕ → Position → Type 0
IsPaid depart p = p.cost + DEAREST_MINUTE * depart ≤ DEAREST_MINUTE * p.minute

module _ (s : Setting) (cheap : IsCheap s) (until depart : ℕ) where
  keeps : (x : Step) (p q : Position) → IsPaid depart p → Moves s until x p q → IsPaid depart q
  unfolding IsPaid
  keeps (drive a) p q paid move = omega (arith, cheap.each_road a move.road move.is, move.minute, move.cost, paid)
  keeps wait p q paid move = omega (arith, cheap.each_weight p.node move.weight move.rated, move.minute, move.cost, paid)

-- over the longest horizon all costs fit
pub fits : (s : Setting) (r : Request) → IsCheap s → r.depart ≤ r.until → r.until ≤ r.depart + LONGEST_HORIZON → CostsFit s r
unfolding IsPaid
fits s r cheap in_order short steps p walk =
    let paid = along s r.until (IsPaid r.depart) (keeps s cheap r.until r.depart) steps (start_of r) p (omega arith) walk in
    let late = walk_in_time s r.until steps (start_of r) p in_order walk in
    omega (arith, paid, late, short)
