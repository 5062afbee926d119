use Rattle.std.proofs.Common.{◌<◌, ◌≤◌, ℕ, length, get_or}
use Rattle.cost_functions.specs.Lines.{line_at}
use Rattle.cost_functions.specs.declared.pieces.Piece.{Piece}
use Rattle.certificate_check.specs.Inside.Passing.{Passes, link_of}
use Rattle.certificate_check.proofs.sweep.pieces_pass.Given as goal

abbrev pub invariant-loop-piece : goal.invariant-loop-piece
invariant-loop-piece l = (k : ℕ) (d : Piece) → k < l.piece-index → k < length l.pieces
    → (t : ℕ) → (get_or l.pieces k d).lo ≤ t → t ≤ (get_or l.pieces k d).hi
    → Passes l.until l.pairs (link_of l.passage) t (line_at (get_or l.pieces k d) t)
