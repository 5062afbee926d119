use Rattle.std.proofs.Common.{◌≡◌, ap, Err}
use Rattle.std.proofs.lemmas.Result.{err_from_is_err_and}
use Rattle.conditional_rules.specs.declared.faults.ConditionalFault.TheVariants as faults
use Rattle.conditional_rules.proofs.CutLists.{goes_on, ends, fails}
use Rattle.conditional_rules.proofs.parser.cut_pieces.Goals as goal

pub returns-in_default-clause-found : goal.returns-in_default-clause-found
returns-in_default-clause-found g c = rw c.in_ok-push.ensures.ok
    (ends g.T.Piece.first_mark g.T.Piece.width g.T.Piece.Is c.args.text.now c.loop-piece.rest.now c.loop-piece.out c.in_ok-last.last
    c.in_default.ensures.none c.in_ok-last.ensures.found c.loop-piece.invariant)

pub returns-in_err-item-clause-none : goal.returns-in_err-item-clause-none
returns-in_err-item-clause-none g c = λ is ys h.
    let p = err_from_is_err_and c.from_residual-in_err-item.result c.from_residual-in_err-item.ensures.1 in
    let same : c.in_err-item.field-0.0 ≡ faults.NotConditional = cc in
    fails g.T.Piece.first_mark g.T.Piece.width g.T.Piece.Is c.args.text.now c.loop-piece.rest.now c.in-Some.piece.now c.in-Some.behind.now
    c.loop-piece.out c.in-Some.ensures.parts (c.in_err-item.ensures.none (ap Err same)) c.loop-piece.invariant ys h

pub loop-piece-preserved : goal.loop-piece-preserved
loop-piece-preserved g c = rw c.in_ok-push-2.ensures.ok
    (goes_on g.T.Piece.first_mark g.T.Piece.width g.T.Piece.Is c.args.text.now c.loop-piece.rest.now c.in-Some.piece.now c.in-Some.behind.now
    c.loop-piece.out c.in_ok-item.item c.in-Some.ensures.parts c.in_ok-item.ensures.found c.in_ok-item.ensures.only c.loop-piece.invariant)
