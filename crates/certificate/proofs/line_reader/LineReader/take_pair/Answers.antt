use Rattle.std.proofs.Common.{sym, ap, ◌∙◌}
use Rattle.certificate.specs.Inside.LineForms.{pair_in}
use Rattle.certificate.specs.Inside.Reading.{first_line}
use Rattle.certificate.proofs.CutLines.{first_read}
use Rattle.certificate.proofs.line_reader.LineReader.take_pair.Goals as goal

pub returns-clause-some : goal.returns-clause-some
returns-clause-some c =
    ap (first_line pair_in) (sym c.self.view_is)
    ∙ first_read pair_in c.self.inside.rest.now c.in_ok-line.line.now c.in_ok-line.rest.now (c.in_ok-pair.pair, c.in_ok-pair.legs.now)
    c.in_ok-line.ensures.parts c.in_ok-pair.ensures
