use Rattle.std.proofs.Common.{◌∙◌, arith}
use Rattle.cost_functions.specs.Lines.{IsSmallPiece}
use Rattle.cost_functions.proofs.Places.{pieces_rest}
use Rattle.function_merge.proofs.FirstPieces.{rest_every, rest_values, reach_all}
use Rattle.function_merge.proofs.suffixes.skip_pieces.Goals as goal

pub skip-preserved : goal.skip-preserved
skip-preserved c =
    let left = c.skip.left.now in
    let inv = c.skip.invariant in
    let some = c.in-len1-up.len_at_least in
    record {
      pieces = pieces_rest left some inv.pieces;
      small = rest_every left some inv.pieces IsSmallPiece inv.small;
      values = λ t late. rest_values left some inv.pieces t (omega (arith, late, c.if-from-first.false)) ∙ inv.values t late;
    }

pub returns-then-from-first-clause-left : goal.returns-then-from-first-clause-left
returns-then-from-first-clause-left c =
    let inv = c.skip.invariant in
    record {
      pieces = inv.pieces;
      small = inv.small;
      reach = reach_all c.skip.left.now c.in-len1-up.len_at_least inv.pieces c.args.from c.if-from-first.true;
    }

pub returns-in_default-clause-left : goal.returns-in_default-clause-left
returns-in_default-clause-left c =
    let inv = c.skip.invariant in
    record { pieces = inv.pieces; small = inv.small; reach = λ k d within. absurd (omega (arith, within, c.in_default.len_below)) }
