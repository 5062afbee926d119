-- Small pieces have small values.
use Rattle.std.proofs.Common.{◌≡◌, ℕ, ◌*◌, ◌-◌, ◌≤◌, Some, List, get_or, All, arith}
use Rattle.std.proofs.Math.Nat.{mul-le-mul_left}
use Rattle.cost_functions.specs.Lines.{line_at, IsPiece, IsSmallPiece}
use Rattle.cost_functions.specs.Pieces.{value_at}
use Rattle.cost_functions.specs.declared.pieces.Piece.{Piece}
use Rattle.route_base.specs.declared.limits.TheConstants.{LAST_INSTANT, HIGHEST_COST}
use Rattle.cost_functions.proofs.PieceValues.{values_of_pieces}

-- lines do not fall
pub line_rises : (p : Piece) (t u : ℕ) → t ≤ u → line_at p t ≤ line_at p u
line_rises p t u le = let rise : p.slope * (t - p.lo) ≤ p.slope * (u - p.lo) = mul-le-mul_left p.slope (omega (arith, le)) in omega (arith, rise)

pub value_within : (ps : List Piece) (t v : ℕ) → All IsPiece ps → All IsSmallPiece ps → value_at ps t ≡ Some v → (v ≤ HIGHEST_COST) × (t ≤ LAST_INSTANT)
value_within ps t v each small is =
    values_of_pieces (λ u x. (x ≤ HIGHEST_COST) × (u ≤ LAST_INSTANT)) ps
    (λ k d within u from upto.
    (let rise = line_rises (get_or ps k d) u (get_or ps k d).hi upto in
    let low = small k d within in
    let last = (each k d within).minutes in
    (omega (arith, rise, low), omega (arith, upto, last))))
    t v is
