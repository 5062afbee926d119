use Rattle.std.proofs.Common.{◌++◌, ◌+◌, ℕ, [], ◌∷◌, take, get_or, ◌∙◌, ap, sym, arith, length}
use Rattle.std.proofs.lemmas.List.{take_more, get_or_default}
use Rattle.cost_functions.specs.Pieces.{value_at, point_at}
use Rattle.cost_functions.specs.declared.pieces.Piece.{Piece}
use Rattle.cost_functions.proofs.Places.{point_onto, nothing_yet}
use Rattle.cost_functions.proofs.cost_fn.CostFn.from_points.Goals as goal

pub loop-point-init : goal.loop-point-init
loop-point-init c = record {
  values = λ t. ap (λ ps. value_at ps t) c.new-built.ensures ∙ nothing_yet t;
  ended = λ d h k d' w. absurd (let empty = ap length c.new-built.ensures in omega (arith, w, empty));
}

pub loop-point-preserved : goal.loop-point-preserved
loop-point-preserved c =
    let xs = c.args.points.now in
    let i = c.loop-point.point-index in
    let none : ℕ × ℕ = (0, 0) in
    let p = get_or xs i none in
    let push = c.in_ok-push.ensures in
    record {
      values = λ t. push.values t ∙ ap (λ (q : Piece). value_at (c.loop-point.built ++ q ∷ []) t) c.at_one.ensures
          ∙ point_onto c.loop-point.built (take i xs) (p.0) (p.1) t (c.loop-point.invariant.values t)
          ∙ ap (λ ys. point_at ys t) (sym (take_more xs i none c.loop-point-test.true));
      ended = λ d h k d' w.
          (let here = push.ended k d' w in
          let next = c.requires.rising i (i + 1) none (omega arith) h in
          let same = ap (λ (q : ℕ × ℕ). q.0) (get_or_default xs (i + 1) none d h) in
          let hi = ap (λ (q : Piece). q.hi) c.at_one.ensures in
          omega (arith, here, next, same, hi));
    }
