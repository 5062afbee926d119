use Rattle.std.proofs.Common.{◌-◌, ◌<◌, get_or, length, arith, rules}
use Rattle.route_base.specs.Relaxing.{HasPair}
use Rattle.route_base.proofs.Covering.{pair_later}
use Rattle.cost_functions.specs.Lines.{line_at}
use Rattle.cost_functions.specs.declared.pieces.Piece.{Piece}
use Rattle.cost_functions.proofs.Slopes.{no_rise}
use Rattle.certificate_check.proofs.PieceValues.{values_of_pieces, pieces_of_values, one_more}
use Rattle.certificate_check.proofs.goal.is_goal_covered.Goals as goal

none : Piece
none = record { lo = 0; hi = 0; cost = 0; slope = 0 }

pub returns-then-not-has_pair : goal.returns-then-not-has_pair
unfolding none
returns-then-not-has_pair c =
    let pairs = c.args.pairs.now in
    let ps = c.args.pieces.now in
    let k = c.loop-piece.piece-index in
    let piece = get_or ps k none in
    let within : k < length ps = omega (arith, c.loop-piece-test.true) in
    let filled = (c.requires.pieces.each k none within).filled in
    let flat = no_rise piece.slope (piece.lo - piece.lo) (omega arith) in (
      (λ h. search rules),
      (λ all. c.if-not-has_pair.ensures.1 (pair_later pairs piece.lo (line_at piece piece.lo) piece.lo piece.cost (omega arith) (omega (arith, flat))
          (pieces_of_values (HasPair pairs) ps c.requires.pieces all k none within piece.lo (omega arith) filled))),
    )

pub loop-piece-preserved : goal.loop-piece-preserved
loop-piece-preserved c = one_more (λ (p : Piece). HasPair c.args.pairs.now p.lo p.cost) c.args.pieces.now c.loop-piece.piece-index _
    c.loop-piece.invariant (c.if-not-has_pair.ensures.0 (search rules))

pub returns : goal.returns
returns c = (
  (λ _. values_of_pieces (HasPair c.args.pairs.now) c.args.pieces.now (λ k d within t from upto.
      (let p = get_or c.args.pieces.now k d in
      pair_later c.args.pairs.now p.lo p.cost t (line_at p t) from (omega arith)
      (c.loop-piece.invariant k d (omega (arith, within, c.loop-piece-test.false)) within)))),
  (λ _. search rules),
)
