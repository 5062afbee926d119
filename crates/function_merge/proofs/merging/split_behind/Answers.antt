use Rattle.std.proofs.Common.{◌<◌, All, take, sym, subst}
use Rattle.cost_functions.specs.declared.pieces.Piece.{Piece}
use Rattle.function_merge.specs.Inside.Suffixes.{AreParts}
use Rattle.function_merge.proofs.Splits.{parts_at, all_drop}
use Rattle.function_merge.proofs.merging.split_behind.Goals as goal

pub returns-clause-parts : goal.returns-clause-parts
returns-clause-parts c =
    let ps = c.args.pieces.now in
    let k = c.beginning_by.result in
    let cut = c.split_at.ensures in
    subst (λ xs. AreParts ps xs c.split_at.result.1.now) (sym cut.front) (subst (AreParts ps (take k ps)) (sym cut.back)
    (parts_at ps k c.beginning_by.ensures.within c.requires))

pub returns-clause-behind : goal.returns-clause-behind
returns-clause-behind c =
    let P : Piece → Type 0 = λ p. c.args.minute < p.lo in
    subst (All P) (sym c.split_at.ensures.back)
    (all_drop c.args.pieces.now c.beginning_by.result c.beginning_by.ensures.within P c.beginning_by.ensures.after)
