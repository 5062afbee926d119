use Rattle.std.proofs.Common.{All, subst, sym}
use Rattle.cost_functions.specs.Pieces.{ArePieces}
use Rattle.function_merge.specs.Inside.EndRanges.{WaitsInRange}
use Rattle.function_merge.proofs.Ranges.{can_wait, all_wait}
use Rattle.function_merge.proofs.conditions.can_wait.Goals as goal

pub returns-clause-can : goal.returns-clause-can
returns-clause-can c = λ yes.
    can_wait c.args.weight c.args.until c.args.f.now (subst (All (WaitsInRange c.args.weight c.args.until)) c.pieces.ensures.items
    (c.all_fit_wait.ensures.0 yes))

pub returns-clause-enough : goal.returns-clause-enough
returns-clause-enough c = λ can.
    let items = c.pieces.ensures.items in
    let all = all_wait c.args.weight c.args.until c.args.f.now (subst ArePieces items c.pieces.ensures.pieces) can in
    c.all_fit_wait.ensures.1 (subst (All (WaitsInRange c.args.weight c.args.until)) (sym items) all)
