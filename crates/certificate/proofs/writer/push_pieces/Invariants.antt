use Rattle.std.proofs.Common.{◌≡◌, ◌++◌, flat_map, take}
use Rattle.certificate.specs.Inside.Spelling.{piece_text}
use Rattle.certificate.proofs.writer.push_pieces.Given as goal

abbrev pub invariant-loop-piece : goal.invariant-loop-piece
invariant-loop-piece l = l.out.items ≡ l.initial.out.items ++ flat_map (piece_text l.fn.node) (take l.piece-index l.pieces)
