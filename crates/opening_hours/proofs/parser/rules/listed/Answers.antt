use Rattle.std.proofs.Common.{◌≡◌, sym, Some, None}
use Rattle.std.proofs.lemmas.Result.{err_from_is_err_and}
use Rattle.opening_hours.specs.Inside.Parser.{belongs, behind, pieces, all_read, tail_of}
use Rattle.opening_hours.proofs.Parts.{all_goes_on, all_ends, all_fails, tail_smaller}
use Rattle.opening_hours.proofs.parser.rules.listed.Goals as goal

pub returns-in_err-item : goal.returns-in_err-item
returns-in_err-item g c =
    let p = err_from_is_err_and c.from_residual.result c.from_residual.ensures.1 in
    let fails = rw c.front.ensures.front at c.in_err-item.ensures in
    rw (p.1, p.2) (all_fails g.T.Piece.reading c.args.part c.in_err-item.field-0.0 c.loop-out.out c.loop-out.rest.now
    (all_read g.T.Piece.reading (pieces c.args.part c.args.tokens.now)) fails c.loop-out.invariant)

pub returns-in-None : goal.returns-in-None
returns-in-None g c =
    let read = rw c.front.ensures.front at c.in_ok-item.ensures in
    let cut : tail_of (behind (belongs c.args.part) c.loop-out.rest.now) ≡ None = rw (← c.front.ensures.behind) (sym c.in-None.ensures) in
    rw c.in_ok-push.ensures.ok (all_ends g.T.Piece.reading c.args.part c.loop-out.out c.loop-out.rest.now c.in_ok-item.item
    (all_read g.T.Piece.reading (pieces c.args.part c.args.tokens.now)) read cut c.loop-out.invariant)

pub loop-out-smaller : goal.loop-out-smaller
loop-out-smaller g c =
    let cut : tail_of (behind (belongs c.args.part) c.loop-out.rest.now) ≡ Some c.in-Some.after.now =
    rw (← c.front.ensures.behind) (sym c.in-Some.ensures) in
    tail_smaller (belongs c.args.part) c.loop-out.rest.now c.in-Some.after.now cut

pub loop-out-preserved : goal.loop-out-preserved
loop-out-preserved g c =
    let read = rw c.front.ensures.front at c.in_ok-item.ensures in
    let cut : tail_of (behind (belongs c.args.part) c.loop-out.rest.now) ≡ Some c.in-Some.after.now =
    rw (← c.front.ensures.behind) (sym c.in-Some.ensures) in
    rw c.in_ok-push.ensures.ok (all_goes_on g.T.Piece.reading c.args.part c.loop-out.out c.loop-out.rest.now
    c.in-Some.after.now c.in_ok-item.item (all_read g.T.Piece.reading (pieces c.args.part c.args.tokens.now)) read cut c.loop-out.invariant)
