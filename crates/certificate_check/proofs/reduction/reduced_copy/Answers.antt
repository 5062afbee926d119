use Rattle.std.proofs.Common.{◌+◌, List, take, refl, sym, ◌∙◌, subst, arith}
use Rattle.std.proofs.lemmas.List.{take_all}
use Rattle.std.proofs.lemmas.List.Elements.{All-push}
use Rattle.route_base.specs.declared.types.NodeId.{NodeId}
use Rattle.cost_functions.specs.Pieces.{IsReduced, AreSmallPieces}
use Rattle.cost_functions.specs.declared.pieces.Piece.{Piece}
use Rattle.certificate_check.specs.Inside.Reduction.{AreAlike, AreReducedWhereSmall}
use Rattle.certificate_check.proofs.SameValues.{alike_values, next_above, next_alike}
use Rattle.certificate_check.proofs.reduction.reduced_copy.Goals as goal

pub push-requires : goal.push-requires
push-requires c =
    let l = c.loop-entry in
    let slice = c.as_slice-entry-items in
    next_above l.copy slice.result.now l.entry-index c.entry-item.result (omega (arith, c.loop-entry-test.true)) c.entry-item.is l.invariant.alike
    slice.ensures.rising

pub loop-entry-preserved : goal.loop-entry-preserved
loop-entry-preserved c =
    let l = c.loop-entry in
    let slice = c.as_slice-entry-items.result.now in
    let e = c.entry-item.result in
    let made = c.in_ok-function.ensures in
    let d : NodeId × List Piece = (e.0, c.in_ok-function.function) in
    record {
      alike = subst (λ (ds : List (NodeId × List Piece)). AreAlike ds (take (l.entry-index + 1) slice)) (sym c.in_ok-push.ensures.ok)
          (next_alike l.copy slice l.entry-index e (omega (arith, c.loop-entry-test.true)) c.entry-item.is l.invariant.alike d refl made.values);
      reduced = subst AreReducedWhereSmall (sym c.in_ok-push.ensures.ok)
          (All-push (λ (w : NodeId × List Piece). AreSmallPieces w.1 → IsReduced w.1) l.copy d l.invariant.reduced made.reduced);
    }

pub returns : goal.returns
returns c =
    let l = c.loop-entry in
    let slice = c.as_slice-entry-items in
    let whole = take_all l.entry-index slice.result.now (omega (arith, c.loop-entry-test.false)) ∙ slice.ensures.entries in
    record {
      values = alike_values l.copy c.args.functions.now
          (subst (λ (es : List (NodeId × List Piece)). AreAlike l.copy es) whole l.invariant.alike);
      reduced = l.invariant.reduced;
    }
