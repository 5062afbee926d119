use Rattle.std.proofs.Common.{sym, ap, ◌∙◌}
use Rattle.certificate.specs.Inside.Reading.{first_line}
use Rattle.certificate.proofs.CutLines.{first_read}
use Rattle.certificate.proofs.line_reader.LineReader.take.Goals as goal

pub returns-clause-some : goal.returns-clause-some
returns-clause-some g c =
    ap (λ ls. first_line (g.K.LineKind.reading c.args.kind.now) ls) (sym c.self.view_is)
    ∙ first_read (g.K.LineKind.reading c.args.kind.now) c.self.inside.rest.now c.in_ok-line.line.now c.in_ok-line.rest.now c.in_ok-item.item
    c.in_ok-line.ensures.parts (sym c.read.ensures ∙ c.in_ok-item.was)
