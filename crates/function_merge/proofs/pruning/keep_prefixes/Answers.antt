use Rattle.std.proofs.Common.{◌<◌, ◌∙◌, [], length, take, refl, sym, subst, arith}
use Rattle.cost_functions.specs.declared.pieces.Piece.{Piece}
use Rattle.cost_functions.proofs.Values.{none_after}
use Rattle.function_merge.specs.Inside.Prefixes.{IsClearUntil, HasPrefix, HaveArrived}
use Rattle.function_merge.proofs.PrunedPieces.{pruned_none, next_pruned, next_ended, next_arrived}
use Rattle.function_merge.proofs.pruning.keep_prefixes.Goals as goal

pub loop-i-init : goal.loop-i-init
loop-i-init c = record {
  within = omega arith;
  size = refl;
  others = λ j d late. refl;
  pieces = record { each = λ k d w. absurd (omega (arith, w)); apart = λ i j d lt w. absurd (omega (arith, w)) };
  small = λ k d w. absurd (omega (arith, w));
  pruned = pruned_none c.args.until c.args.pairs.now c.args.bound [] (λ t. none_after [] t (λ k d w. absurd (omega (arith, w))));
  count = omega arith;
  arrived = λ d h k e from lt. absurd (omega (arith, lt));
  ended = λ d h k d' w. absurd (omega (arith, w));
}

pub loop-i-preserved : goal.loop-i-preserved
loop-i-preserved c =
    let xs = c.args.pieces.now in
    let i = c.loop-i.i in
    let none : Piece = record { lo = 0; hi = 0; cost = 0; slope = 0 } in
    let inv = c.loop-i.invariant in
    let old = take c.loop-i.kept c.loop-i.pieces in
    let written = c.put_before-kept in
    let new = take written.result written.new.pieces in
    let end = c.clear_until-end.result in
    let short : i < length xs = omega (arith, c.loop-i-test.true, inv.size) in
    let same = inv.others i none (omega arith) in
    let clear = subst (λ (p : Piece). IsClearUntil c.args.until c.args.pairs.now c.args.bound p end) same c.clear_until-end.ensures in
    let put = subst (λ (p : Piece). HasPrefix p end old new) same written.ensures.put in
    let passed = c.pass_arrived-arrived in
    let before = subst (λ (p : Piece). HaveArrived c.args.bound p.lo c.args.pairs.now passed.result) same passed.ensures.before in
    record {
      within = omega (arith, written.ensures.within, inv.within);
      size = written.ensures.length ∙ inv.size;
      others = λ j d late. written.ensures.others j d (omega (arith, late, inv.within)) ∙ inv.others j d (omega (arith, late));
      pieces = written.ensures.pieces;
      small = written.ensures.small;
      pruned = next_pruned c.args.until c.args.pairs.now c.args.bound xs old new i end none c.requires.pieces short inv.pruned (inv.ended none short) clear put;
      count = passed.ensures.within;
      arrived = λ d h. next_arrived c.args.bound c.args.pairs.now xs i passed.result none d c.requires.pieces h before;
      ended = next_ended c.args.until c.args.pairs.now c.args.bound xs old new i end none c.requires.pieces short inv.pruned (inv.ended none short) clear put;
    }

pub pass_arrived-arrived-requires-clause-before : goal.pass_arrived-arrived-requires-clause-before
pass_arrived-arrived-requires-clause-before c =
    let inv = c.loop-i.invariant in
    let none : Piece = record { lo = 0; hi = 0; cost = 0; slope = 0 } in
    let same = inv.others c.loop-i.i none (omega arith) in
    subst (λ (p : Piece). HaveArrived c.args.bound p.lo c.args.pairs.now c.loop-i.arrived) (sym same)
    (inv.arrived none (omega (arith, c.loop-i-test.true, inv.size)))
