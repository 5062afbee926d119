use Rattle.std.proofs.Common.{refl}
use Rattle.cost_functions.specs.declared.pieces.Piece.{Piece}
use Rattle.cost_functions.proofs.Places.{pieces_rest, reduced_rest, reduced_whole}
use Rattle.cost_functions.proofs.reduction.are_reduced.Goals as goal

pub pairs-preserved : goal.pairs-preserved
pairs-preserved c =
    let left = c.pairs.left.now in
    let inv = c.pairs.invariant in
    let none : Piece = record { lo = 0; hi = 0; cost = 0; slope = 0 } in
    let some = c.in-len1-up.len_at_least in
    let one = c.in-len1-up-rest.len_at_least in
    record {
      pieces = pieces_rest left some inv.pieces;
      whole = λ reduced. inv.whole (reduced_whole left none some one inv.pieces (c.in_default-common_slope.ensures.none refl) reduced);
      part = λ reduced. reduced_rest left none some one inv.pieces (inv.part reduced);
    }
