use Rattle.std.proofs.Common.{◌≡◌, inr, ⊎_elim, ◌≤◌, ◌<◌, Some, get_or, sym, ◌∙◌, ap, subst, arith}
use Rattle.std.specs.Prelude.{Contains}
use Rattle.std.proofs.lemmas.Bool.{cases_lt}
use Rattle.std.proofs.lemmas.List.{get_or_default}
use Rattle.route_base.specs.Relaxing.{HasPair}
use Rattle.route_base.specs.declared.types.Pair.{Pair}
use Rattle.cost_functions.specs.Pieces.{value_at}
use Rattle.cost_functions.specs.declared.pieces.Piece.{Piece}
use Rattle.propagation.proofs.PieceStarts.{start_value, piece_of}
use Rattle.propagation.proofs.Bordering.{borders_kept}
use Rattle.propagation.proofs.pairs.add_pairs.Goals as goal

pub loop-piece-preserved : goal.loop-piece-preserved
loop-piece-preserved c =
    let step = c.in_ok-add_pair.ensures in
    let ps = c.pieces-piece-items.result.now in
    let k = c.loop-piece.piece-index in
    let none : Piece = record { lo = 0; hi = 0; cost = 0; slope = 0 } in
    let q : Piece = get_or ps k none in
    let start : value_at c.args.offer.now q.lo ≡ Some q.cost = subst (λ w. value_at w q.lo ≡ Some q.cost) c.pieces-piece-items.ensures.items
    (start_value ps k none c.pieces-piece-items.ensures.pieces c.loop-piece-test.true) in
    record {
      trade = step.trade;
      borders = borders_kept (record { arrival = q.lo; cost = q.cost }) c.loop-piece.pairs.items c.add_pair.new.pairs.items c.loop-piece.borders.items
          c.add_borders.new.borders.items c.loop-piece.invariant.borders step c.in_ok-add_borders.ensures;
      kept = λ t x had. step.kept t x (c.loop-piece.invariant.kept t x had);
      each = λ p one. ⊎_elim
          (λ (was : Contains c.loop-piece.pairs.items p). c.loop-piece.invariant.each p was)
          (λ (same : p ≡ record { arrival = q.lo; cost = q.cost }).
          inr (ap (λ (w : Pair). value_at c.args.offer.now w.arrival) same ∙ start ∙ ap (λ (w : Pair). Some w.cost) (sym same)))
          (step.each p one);
      here = λ i d below. ⊎_elim
          (λ (before : i < k). step.kept (get_or ps i d).lo (get_or ps i d).cost (c.loop-piece.invariant.here i d before))
          (λ (now : k ≤ i).
          let same : k ≡ i = omega (arith, below, now) in
          let at : q ≡ get_or ps i d = ap (λ n. get_or ps n none) same ∙ get_or_default ps i none d (omega (arith, same, c.loop-piece-test.true)) in
          subst (λ (w : Piece). HasPair c.add_pair.new.pairs.items w.lo w.cost) at step.here)
          (cases_lt i k);
    }

pub returns-clause-takes : goal.returns-clause-takes
returns-clause-takes c = record {
  trade = c.loop-piece.invariant.trade;
  kept = c.loop-piece.invariant.kept;
  each = c.loop-piece.invariant.each;
  here = λ t x is.
      let ps = c.pieces-piece-items.result.now in
      let none : Piece = record { lo = 0; hi = 0; cost = 0; slope = 0 } in
      let own = piece_of ps t x (subst (λ w. value_at w t ≡ Some x) (sym c.pieces-piece-items.ensures.items) is) in
      let had = c.loop-piece.invariant.here own.0 none (omega (arith, own.1, c.loop-piece-test.false)) in
      let low = own.2 none in
      record { pair = had.pair; is_one = had.is_one; arrival = omega (arith, had.arrival, low.0); cost = omega (arith, had.cost, low.1) };
}
