use Rattle.std.proofs.Common.{⊎_elim, ◌-◌, ◌<◌, ◌≤◌, Some, [], ◌∷◌, ◌++◌, ◌∙◌, ap, arith}
use Rattle.std.proofs.lemmas.Bool.{cases_lt}
use Rattle.cost_functions.specs.Pieces.{value_at}
use Rattle.cost_functions.specs.declared.pieces.Piece.{Piece}
use Rattle.cost_functions.proofs.Slopes.{no_rise}
use Rattle.cost_functions.proofs.Values.{value_here, value_before, value_after, none_after}
use Rattle.cost_functions.proofs.points.of_one.Goals as goal

pub returns-clause-here : goal.returns-clause-here
returns-clause-here c =
    let t = c.args.point.0 in
    let one : Piece = record { lo = t; hi = t; cost = c.args.point.1; slope = 0 } in
    ap (λ ps. value_at ps t) c.finish.ensures.same
    ∙ c.in_ok-push.ensures.values t
    ∙ ap (λ ps. value_at (ps ++ c.at_one.result ∷ []) t) c.new-built.ensures
    ∙ ap (λ (p : Piece). value_at (p ∷ []) t) c.at_one.ensures
    ∙ value_here one [] t (omega arith) (omega arith)
    ∙ ap Some (let flat = no_rise 0 (t - t) (omega arith) in omega (arith, flat))

pub returns-clause-elsewhere : goal.returns-clause-elsewhere
returns-clause-elsewhere c = λ t other.
    let one : Piece = record { lo = c.args.point.0; hi = c.args.point.0; cost = c.args.point.1; slope = 0 } in
    let none = none_after [] t (λ k d within. absurd (omega (arith, within))) in
    ap (λ ps. value_at ps t) c.finish.ensures.same
    ∙ c.in_ok-push.ensures.values t
    ∙ ap (λ ps. value_at (ps ++ c.at_one.result ∷ []) t) c.new-built.ensures
    ∙ ap (λ (p : Piece). value_at (p ∷ []) t) c.at_one.ensures
    ∙ ⊎_elim
    (λ (early : t < c.args.point.0). value_before one [] t early ∙ none)
    (λ (late : c.args.point.0 ≤ t). value_after one [] t (omega (arith, late, other)) ∙ none)
    (cases_lt t c.args.point.0)
