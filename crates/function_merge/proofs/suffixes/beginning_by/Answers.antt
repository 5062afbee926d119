use Rattle.std.proofs.Common.{◌≡◌, ◌-◌, ◌≤◌, ◌<◌, true, false, length, leb, take, ap, arith, rules}
use Rattle.std.specs.List.{AllWithin}
use Rattle.cost_functions.specs.declared.pieces.Piece.{Piece}
use Rattle.std.proofs.lemmas.Bool.{leb-true, leb-false}
use Rattle.std.proofs.lemmas.List.{get_or_default, length-take-le}
use Rattle.std.proofs.lemmas.List.Sorted.{IsPartitionedBy-leb, IsPartitionPoint-from_clause}
use Rattle.function_merge.proofs.Splits.{begins_rise, pieces_take, within_part, within_both}
use Rattle.function_merge.proofs.suffixes.beginning_by.Goals.{After-partition_point}
use Rattle.function_merge.proofs.suffixes.beginning_by.Goals as goal

pub returns-then-pieces-count-clause-before : goal.returns-then-pieces-count-clause-before
returns-then-pieces-count-clause-before c = λ k d from upto.
    let n = c.back.count in
    let rise = begins_rise c.args.pieces.now c.requires k (n - 1) d (omega (arith, upto)) (omega (arith, upto, c.back.invariant.within)) in
    let none : Piece = record { lo = 0; hi = 0; cost = 0; slope = 0 } in
    let same = ap (λ (p : Piece). p.lo) (get_or_default c.args.pieces.now (n - 1) none d (omega (arith, upto, c.back.invariant.within))) in
    omega (arith, rise, same, c.if-pieces-count.true)

-- of the pieces that are searched, those before the place begin by the minute, and the others don't
parted : (c : After-partition_point) → AllWithin (λ p. leb p.lo c.args.minute ≡ true) (take c.back.count c.args.pieces.now) 0 c.partition_point.result
    × AllWithin (λ p. leb p.lo c.args.minute ≡ false) (take c.back.count c.args.pieces.now) c.partition_point.result
    (length (take c.back.count c.args.pieces.now))
parted c =
    let ps = take c.back.count c.args.pieces.now in
    IsPartitionPoint-from_clause (λ p. leb p.lo c.args.minute) ps c.partition_point.result c.partition_point.ensures.partitioned
    (IsPartitionedBy-leb (λ p. p.lo) ps c.args.minute (begins_rise ps (pieces_take c.args.pieces.now c.back.count c.back.invariant.within c.requires)))
    (λ a r f called. search rules)

pub returns-clause-before : goal.returns-clause-before
returns-clause-before c =
    let n = c.back.count in
    within_part c.args.pieces.now n c.back.invariant.within (λ p. p.lo ≤ c.args.minute) c.partition_point.result
    (omega (arith, c.partition_point.ensures.bound, length-take-le n c.args.pieces.now c.back.invariant.within))
    (λ k d from upto. leb-true _ _ ((parted c).0 k d from upto))

pub returns-clause-after : goal.returns-clause-after
returns-clause-after c = within_both c.args.pieces.now c.back.count c.back.invariant.within (λ p. c.args.minute < p.lo) c.partition_point.result
    (λ k d from upto. leb-false _ _ ((parted c).1 k d from upto)) c.back.invariant.after
