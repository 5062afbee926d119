use Rattle.std.proofs.Common.{◌≤◌, ℕ, arith, rules}
use Rattle.cost_functions.specs.Lines.{line_at}
use Rattle.cost_functions.specs.declared.pieces.Piece.{Piece}
use Rattle.certificate_check.specs.Inside.Passing.{Passes, link_of}
use Rattle.certificate_check.proofs.PieceValues.{values_of_pieces, pieces_of_values, one_more}
use Rattle.certificate_check.proofs.sweep.pieces_pass.Goals as goal

pub returns-then-not-piece_passes : goal.returns-then-not-piece_passes
returns-then-not-piece_passes c = (
  (λ h. search rules),
  (λ all. c.if-not-piece_passes.ensures.1 (pieces_of_values (Passes c.args.until c.args.pairs.now (link_of c.args.passage))
      c.args.pieces.now c.requires.pieces all c.loop-piece.piece-index _ (omega (arith, c.loop-piece-test.true)))),
)

pub loop-piece-preserved : goal.loop-piece-preserved
loop-piece-preserved c = one_more
    (λ (p : Piece). (t : ℕ) → p.lo ≤ t → t ≤ p.hi → Passes c.args.until c.args.pairs.now (link_of c.args.passage) t (line_at p t))
    c.args.pieces.now c.loop-piece.piece-index _ c.loop-piece.invariant (c.if-not-piece_passes.ensures.0 (search rules))

pub returns : goal.returns
returns c = (
  (λ _. values_of_pieces (Passes c.args.until c.args.pairs.now (link_of c.args.passage)) c.args.pieces.now
      (λ k d within. c.loop-piece.invariant k d (omega (arith, within, c.loop-piece-test.false)) within)),
  (λ _. search rules),
)
