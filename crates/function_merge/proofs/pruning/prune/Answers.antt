use Rattle.std.proofs.Common.{[], ◌∙◌, ap, arith, length}
use Rattle.cost_functions.specs.Pieces.{value_at}
use Rattle.cost_functions.specs.declared.pieces.Piece.{Piece}
use Rattle.cost_functions.proofs.Values.{none_after}
use Rattle.function_merge.proofs.PrunedPieces.{pruned_none, next_pruned, next_ended, next_arrived}
use Rattle.function_merge.proofs.pruning.prune.Goals as goal

pub loop-piece-init : goal.loop-piece-init
loop-piece-init c = record {
  pruned =
      pruned_none c.args.until c.args.pairs.now c.args.bound c.new-built.result
      (λ t. ap (λ ps. value_at ps t) c.new-built.ensures ∙ none_after [] t (λ k d within. absurd (omega (arith, within))));
  count = omega arith;
  arrived = λ d h k e from lt. absurd (omega (arith, lt));
  ended = λ d h k d' w. absurd (let empty = ap length c.new-built.ensures in omega (arith, w, empty));
}

pub loop-piece-preserved : goal.loop-piece-preserved
loop-piece-preserved c =
    let xs = c.pieces-piece-items.result.now in
    let are = c.pieces-piece-items.ensures.pieces in
    let i = c.loop-piece.piece-index in
    let none : Piece = record { lo = 0; hi = 0; cost = 0; slope = 0 } in
    let inv = c.loop-piece.invariant in
    let old = c.loop-piece.built in
    let new = c.add_before.new.built in
    let put = c.in_ok-add_before.ensures in
    let short = c.loop-piece-test.true in
    let end = c.clear_until-end in
    record {
      pruned = next_pruned c.args.until c.args.pairs.now c.args.bound xs old new i end.result none are short inv.pruned (inv.ended none short) end.ensures put;
      count = c.pass_arrived-arrived.ensures.within;
      arrived = λ d h. next_arrived c.args.bound c.args.pairs.now xs i c.pass_arrived-arrived.result none d are h c.pass_arrived-arrived.ensures.before;
      ended = next_ended c.args.until c.args.pairs.now c.args.bound xs old new i end.result none are short inv.pruned (inv.ended none short) end.ensures put;
    }
