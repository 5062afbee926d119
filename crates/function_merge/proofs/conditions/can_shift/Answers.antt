use Rattle.std.proofs.Common.{All, subst, sym}
use Rattle.cost_functions.specs.Pieces.{ArePieces}
use Rattle.function_merge.specs.Inside.EndRanges.{EndsInRange}
use Rattle.function_merge.proofs.Ranges.{can_move, all_fit, kept_can}
use Rattle.function_merge.proofs.conditions.can_shift.Goals as goal

pub returns-clause-values : goal.returns-clause-values
returns-clause-values c =
    let m = c.args.minutes in
    let x = c.args.cost in
    let items = c.pieces.ensures.items in (
      (λ yes. can_move m x c.args.f.now (subst (All (EndsInRange m x)) items (c.all_fit.ensures.0 yes))),
      (λ can. c.all_fit.ensures.1 (subst (All (EndsInRange m x)) (sym items) (all_fit m x c.args.f.now (subst ArePieces items c.pieces.ensures.pieces) can))),
    )

pub returns-clause-kept : goal.returns-clause-kept
returns-clause-kept c = λ yes runs.
    let m = c.args.minutes in
    let x = c.args.cost in
    kept_can m x c.args.f.now runs (can_move m x c.args.f.now (subst (All (EndsInRange m x)) c.pieces.ensures.items (c.all_fit.ensures.0 yes)))
