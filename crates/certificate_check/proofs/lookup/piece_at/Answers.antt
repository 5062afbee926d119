use Rattle.std.proofs.Common.{◌≡◌, ltb, true, false, Some, length, ap, ◌∙◌, sym, arith, rules}
use Rattle.std.specs.List.{AllWithin}
use Rattle.std.proofs.lemmas.List.{get_or_default}
use Rattle.std.proofs.lemmas.List.Sorted.{IsPartitionedBy-ltb, IsPartitionPoint-from_clause}
use Rattle.cost_functions.specs.Lines.{line_at}
use Rattle.cost_functions.specs.declared.pieces.Piece.{Piece}
use Rattle.cost_functions.proofs.Places.{ends_rise, found_end, found_none, value_at_place}
use Rattle.certificate_check.proofs.lookup.piece_at.Goals.{After-partition_point-later}
use Rattle.certificate_check.proofs.lookup.piece_at.Goals as goal

-- the pieces before the place end before the minute, and the others don't
parted : (c : After-partition_point-later) → AllWithin (λ p. ltb p.hi c.args.t ≡ true) c.args.pieces.now 0 c.partition_point-later.result
    × AllWithin (λ p. ltb p.hi c.args.t ≡ false) c.args.pieces.now c.partition_point-later.result (length c.args.pieces.now)
parted c = IsPartitionPoint-from_clause (λ p. ltb p.hi c.args.t) c.args.pieces.now c.partition_point-later.result c.partition_point-later.ensures.partitioned
    (IsPartitionedBy-ltb (λ p. p.hi) c.args.pieces.now c.args.t (ends_rise c.args.pieces.now c.requires)) (λ a r f called. search rules)

pub returns-in_err-piece-clause-none : goal.returns-in_err-piece-clause-none
returns-in_err-piece-clause-none c = λ _.
    let p = parted (goal.at.returns-in_err-piece-clause-none c).After-partition_point-later in
    found_none c.args.pieces.now c.args.t c.partition_point-later.result c.requires p.0 p.1
    (λ d within. absurd (omega (arith, within, c.in_err-piece.ensures.lookup.3)))

pub returns-then-piece-t-clause-upto : goal.returns-then-piece-t-clause-upto
returns-then-piece-t-clause-upto c =
    let p = parted (goal.at.returns-then-piece-t-clause-upto c).After-partition_point-later in
    let lookup = c.in_ok-piece.ensures.lookup in
    found_end c.args.pieces.now c.args.t c.partition_point-later.result c.requires p.0 p.1 c.in_ok-piece.field-0.now lookup.3.0 lookup.1

pub returns-then-piece-t-clause-values : goal.returns-then-piece-t-clause-values
returns-then-piece-t-clause-values c = λ s from upto.
    let ps = c.args.pieces.now in
    let i = c.partition_point-later.result in
    let piece = c.in_ok-piece.field-0.now in
    let lookup = c.in_ok-piece.ensures.lookup in
    value_at_place ps i piece s c.requires lookup.3.0
    (omega (arith, from, ap (λ (p : Piece). p.lo) lookup.1)) (omega (arith, upto, ap (λ (p : Piece). p.hi) lookup.1))
    ∙ ap (λ (q : Piece). Some (line_at q s)) (sym lookup.1)

pub returns-else-piece-t-clause-none : goal.returns-else-piece-t-clause-none
returns-else-piece-t-clause-none c = λ _.
    let p = parted (goal.at.returns-else-piece-t-clause-none c).After-partition_point-later in
    let ps = c.args.pieces.now in
    let i = c.partition_point-later.result in
    found_none ps c.args.t i c.requires p.0 p.1 (λ d within.
    (let here = ap (λ (p : Piece). p.lo) (c.in_ok-piece.ensures.lookup.1 ∙ get_or_default ps i c.in_ok-piece.field-0.now d within) in
    omega (arith, here, c.if-piece-t.false)))
