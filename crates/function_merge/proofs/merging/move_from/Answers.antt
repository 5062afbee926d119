use Rattle.std.proofs.Common.{◌≤◌, length, take, ap, sym, subst, arith}
use Rattle.function_merge.specs.Inside.Suffixes.{AreParts}
use Rattle.function_merge.proofs.Outcomes.{both_ok}
use Rattle.function_merge.proofs.Splits.{parts_at}
use Rattle.function_merge.proofs.merging.move_from.Goals as goal

pub returns-clause-parts : goal.returns-clause-parts
returns-clause-parts c =
    let ps = c.args.pieces.now.items in
    let k = c.ending_before-keep.result in
    let le : k ≤ length ps = omega (arith, c.ending_before-keep.ensures.within, ap length c.deref.ensures.value) in
    both_ok c.cut_off.result _ _ _ (λ _ items tail.
    subst (λ xs. AreParts ps xs c.cut_off.new.rest.items) (sym items) (subst (AreParts ps (take k ps)) (sym tail) (parts_at ps k le c.requires)))
    c.cut_off.ensures.items c.cut_off.ensures.tail
