use Rattle.std.proofs.Common.{◌≡◌, length}
use Rattle.opening_hours.specs.Inside.Parser.{pieces, all_read}
use Rattle.opening_hours.proofs.Parts.{with_front}
use Rattle.opening_hours.proofs.parser.rules.listed.Given as goal

abbrev pub invariant-loop-out : goal.invariant-loop-out
invariant-loop-out g l = with_front g.T.Piece.reading l.part l.out
    (all_read g.T.Piece.reading (pieces l.part l.rest)) ≡ all_read g.T.Piece.reading (pieces l.part l.tokens)

abbrev pub decreases-loop-out : goal.decreases-loop-out
decreases-loop-out g l = length l.rest
