use Rattle.std.proofs.Common.{◌≡◌, length, take}
use Rattle.certificate.specs.CertificateText.{all_pieces}
use Rattle.certificate.proofs.writer.piece_count.Given as goal

abbrev pub invariant-loop-entry : goal.invariant-loop-entry
invariant-loop-entry l = l.count ≡ length (all_pieces (take l.entry-index l.functions))
