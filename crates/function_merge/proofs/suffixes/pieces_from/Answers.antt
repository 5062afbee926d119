use Rattle.std.proofs.Common.{◌<◌, ◌-◌, length, get_or, take, drop, ◌∙◌, ap, sym, subst, arith}
use Rattle.cost_functions.specs.Pieces.{value_at, ArePieces}
use Rattle.cost_functions.specs.declared.pieces.Piece.{Piece}
use Rattle.cost_functions.proofs.Values.{pieces_tail, value_after}
use Rattle.route_base.proofs.Lists.{first_and_rest}
use Rattle.function_merge.proofs.suffixes.pieces_from.Goals as goal

pub returns-in-len1-up-clause-pieces : goal.returns-in-len1-up-clause-pieces
returns-in-len1-up-clause-pieces c =
    let xs = c.args.pieces.now in
    let d : Piece = record { lo = 0; hi = 0; cost = 0; slope = 0 } in
    pieces_tail (get_or xs 0 d) (take (length xs - 1) (drop 1 xs)) (subst ArePieces (first_and_rest xs d c.in-len1-up.len_at_least) c.requires)

pub returns-in-len1-up-clause-values : goal.returns-in-len1-up-clause-values
returns-in-len1-up-clause-values c = λ t late.
    let xs = c.args.pieces.now in
    let d : Piece = record { lo = 0; hi = 0; cost = 0; slope = 0 } in
    let ends : (get_or xs 0 d).hi < t = omega (arith, c.if-first-from.true, late) in
    sym (ap (λ ys. value_at ys t) (first_and_rest xs d c.in-len1-up.len_at_least) ∙ value_after (get_or xs 0 d) (take (length xs - 1) (drop 1 xs)) t ends)
