use Rattle.std.proofs.Common.{◌-◌, refl, arith}
use Rattle.cost_functions.specs.declared.pieces.Piece.{Piece}
use Rattle.function_merge.proofs.PrunedPieces.{put_none, put_some}
use Rattle.function_merge.proofs.pruning.add_before.Goals as goal

pub returns-in_ok-push : goal.returns-in_ok-push
returns-in_ok-push c =
    let cut : Piece = record { lo = c.args.piece.lo; hi = c.args.end - 1; cost = c.args.piece.cost; slope = c.args.piece.slope } in
    let push = c.in_ok-push.ensures in
    let some = c.if-piece-end.true in
    put_some c.args.piece c.args.end c.args.built.now c.requires.later c.push.new.self cut some refl (omega (arith, some)) (λ t from before. refl) push.values
    (λ k d within. (let e = push.ended k d within in let upto = c.requires.upto in omega (arith, e, upto)))

pub returns-else-piece-end : goal.returns-else-piece-end
returns-else-piece-end c = put_none c.args.piece c.args.end c.args.built.now c.requires.later c.requires.piece.filled (omega (arith, c.if-piece-end.false))
