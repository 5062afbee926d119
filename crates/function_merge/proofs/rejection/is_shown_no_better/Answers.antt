use Rattle.std.proofs.Common.{◌≤◌, ◌+◌, ℕ, List, get_or, subst, arith, rules}
use Rattle.std.proofs.lemmas.List.{get_or_default}
use Rattle.std.proofs.lemmas.List.Elements.{AllWithin-more}
use Rattle.cost_functions.specs.Lines.{line_at}
use Rattle.cost_functions.specs.declared.pieces.Piece.{Piece}
use Rattle.cost_functions.proofs.PieceValues.{values_of_pieces}
use Rattle.function_merge.specs.Rejection.{IsNoBetter}
use Rattle.function_merge.proofs.rejection.is_shown_no_better.Goals as goal

pub loop-piece-preserved : goal.loop-piece-preserved
loop-piece-preserved c =
    let P : List Piece → Piece → Type 0 = λ f p. (t : ℕ) → p.lo ≤ t → t ≤ p.hi → IsNoBetter f (t + c.args.minutes) (line_at p t + c.args.cost) in
    let piece = get_or c.args.pieces.now c.loop-piece.piece-index (record { lo = 0; hi = 0; cost = 0; slope = 0 }) in
    let here : P c.args.f.now piece = subst (λ f. P f piece) c.pieces.ensures.items (c.is_covered.ensures (search rules)) in
    AllWithin-more (P c.args.f.now) c.args.pieces.now 0 c.loop-piece.piece-index c.loop-piece.invariant
    (λ d. subst (P c.args.f.now) (get_or_default c.args.pieces.now c.loop-piece.piece-index _ d (omega (arith, c.loop-piece-test.true))) here)

pub returns : goal.returns
returns c = λ _. values_of_pieces (λ t x. IsNoBetter c.args.f.now (t + c.args.minutes) (x + c.args.cost)) c.args.pieces.now
    (λ k d within. c.loop-piece.invariant k d (omega arith) (omega (arith, within, c.loop-piece-test.false)))
