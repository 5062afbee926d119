use Rattle.std.proofs.Common.{◌≤◌, ◌<◌, All, take, ap, sym, subst, arith}
use Rattle.std.proofs.lemmas.List.{take_more_set}
use Rattle.std.proofs.lemmas.List.Elements.{All-push}
use Rattle.std.proofs.lemmas.List.Quantifiers.{all_pairs_push}
use Rattle.cost_functions.specs.Lines.{IsPiece, IsSmallPiece}
use Rattle.cost_functions.specs.Pieces.{value_at, ArePieces, AreSmallPieces}
use Rattle.function_merge.proofs.PrunedPieces.{put_none, put_some}
use Rattle.function_merge.proofs.pruning.put_before.Goals as goal

pub returns-then-end-piece-clause-put : goal.returns-then-end-piece-clause-put
returns-then-end-piece-clause-put c =
    put_none c.args.piece c.args.end (take c.args.place c.args.pieces.now) c.requires.later c.requires.piece.filled (omega (arith, c.if-end-piece.true))

pub returns-clause-pieces : goal.returns-clause-pieces
returns-clause-pieces c =
    let front = take c.args.place c.args.pieces.now in
    let cut = c.cut_before in
    let are = c.requires.pieces in
    subst ArePieces (sym (take_more_set c.args.pieces.now c.args.place cut.result c.requires.place)) (record {
      each = All-push IsPiece front cut.result are.each cut.ensures.piece;
      apart = all_pairs_push (λ p q. p.hi < q.lo) front cut.result are.apart
          (λ k d within. (let far = c.requires.later k d within in omega (arith, far, cut.ensures.lo)));
    })

pub returns-clause-small : goal.returns-clause-small
returns-clause-small c =
    let cut = c.cut_before in
    subst AreSmallPieces (sym (take_more_set c.args.pieces.now c.args.place cut.result c.requires.place))
    (All-push IsSmallPiece (take c.args.place c.args.pieces.now) cut.result c.requires.small cut.ensures.small)

pub returns-clause-put : goal.returns-clause-put
returns-clause-put c =
    let piece = c.args.piece in
    let front = take c.args.place c.args.pieces.now in
    let cut = c.cut_before in
    let whole = take_more_set c.args.pieces.now c.args.place cut.result c.requires.place in
    let early = All-push (λ q. q.hi ≤ piece.hi) front cut.result
    (λ k d within. (let far = c.requires.later k d within in omega (arith, far, c.requires.piece.filled)))
    (omega (arith, cut.ensures.hi, c.requires.upto)) in
    put_some piece c.args.end front c.requires.later _ cut.result (omega (arith, c.if-end-piece.false)) cut.ensures.lo cut.ensures.hi cut.ensures.line
    (λ t. ap (λ ps. value_at ps t) whole) (subst (All (λ q. q.hi ≤ piece.hi)) (sym whole) early)
