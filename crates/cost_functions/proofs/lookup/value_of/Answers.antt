use Rattle.std.proofs.Common.{◌≡◌, true, false, length, ltb, Some, ap, ◌∙◌, sym, arith, rules}
use Rattle.std.specs.List.{AllWithin}
use Rattle.std.proofs.lemmas.List.{get_or_default}
use Rattle.std.proofs.lemmas.List.Sorted.{IsPartitionedBy-ltb, IsPartitionPoint-from_clause}
use Rattle.cost_functions.specs.declared.pieces.Piece.{Piece}
use Rattle.cost_functions.proofs.Places.{ends_rise, found_end, found_value, found_none}
use Rattle.cost_functions.proofs.lookup.value_of.Goals.{After-partition_point-later}
use Rattle.cost_functions.proofs.lookup.value_of.Goals as goal

-- the pieces before the place end before the minute, and the others don't
parted : (c : After-partition_point-later) → AllWithin (λ p. ltb p.hi c.args.t ≡ true) c.args.pieces.now 0 c.partition_point-later.result
    × AllWithin (λ p. ltb p.hi c.args.t ≡ false) c.args.pieces.now c.partition_point-later.result (length c.args.pieces.now)
parted c =
    let ps = c.args.pieces.now in
    IsPartitionPoint-from_clause (λ p. ltb p.hi c.args.t) ps c.partition_point-later.result c.partition_point-later.ensures.partitioned
    (IsPartitionedBy-ltb (λ p. p.hi) ps c.args.t (ends_rise ps c.requires)) (λ a r f called. search rules)

pub value-requires-clause-within : goal.value-requires-clause-within
value-requires-clause-within c =
    let parts = parted (goal.at.value-requires-clause-within c).After-partition_point-later in
    found_end c.args.pieces.now c.args.t c.partition_point-later.result c.requires parts.0 parts.1 c.in-Some.piece.now c.in-Some.ensures.lookup.3.0
    c.in-Some.ensures.lookup.1

pub returns-then-piece-t : goal.returns-then-piece-t
returns-then-piece-t c =
    let parts = parted (goal.at.returns-then-piece-t c).After-partition_point-later in
    ap Some c.value.ensures ∙ sym (found_value c.args.pieces.now c.args.t c.partition_point-later.result c.requires parts.0 parts.1 c.in-Some.piece.now
    c.in-Some.ensures.lookup.3.0 c.in-Some.ensures.lookup.1 (omega (arith, c.if-piece-t.true)))

pub returns-else-piece-t : goal.returns-else-piece-t
returns-else-piece-t c =
    let ps = c.args.pieces.now in
    let i = c.partition_point-later.result in
    let parts = parted (goal.at.returns-else-piece-t c).After-partition_point-later in
    sym (found_none ps c.args.t i c.requires parts.0 parts.1 (λ d within. (let here = ap (λ (p : Piece). p.lo)
    (c.in-Some.ensures.lookup.1 ∙ get_or_default ps i c.in-Some.piece.now d within) in omega (arith, here, c.if-piece-t.false))))

pub returns-in-None : goal.returns-in-None
returns-in-None c =
    let parts = parted (goal.at.returns-in-None c).After-partition_point-later in
    sym (found_none c.args.pieces.now c.args.t c.partition_point-later.result c.requires parts.0 parts.1
    (λ d within. absurd (omega (arith, within, c.in-None.ensures.lookup.3))))
