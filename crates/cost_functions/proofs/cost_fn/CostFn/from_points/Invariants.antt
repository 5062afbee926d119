use Rattle.std.proofs.Common.{◌≡◌, ◌<◌, ℕ, length, take, get_or, All}
use Rattle.cost_functions.specs.Pieces.{value_at, point_at}
use Rattle.cost_functions.proofs.cost_fn.CostFn.from_points.Given as goal

abbrev pub invariant-loop-point : goal.invariant-loop-point
invariant-loop-point l = record {
  values : (t : ℕ) → value_at l.built t ≡ point_at (take l.point-index l.points) t;
  ended : (d : ℕ × ℕ) → l.point-index < length l.points → All (λ q. q.hi < (get_or l.points l.point-index d).0) l.built;
}
