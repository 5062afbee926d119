use Rattle.std.proofs.Common.{sym, ap, ◌∙◌}
use Rattle.certificate.specs.Inside.LineForms.{count_in}
use Rattle.certificate.specs.Inside.Reading.{first_line}
use Rattle.certificate.proofs.CutLines.{first_read}
use Rattle.certificate.proofs.line_reader.LineReader.take_count.Goals as goal

pub returns-clause-some : goal.returns-clause-some
returns-clause-some c =
    ap (first_line (count_in c.args.word.now)) (sym c.self.view_is)
    ∙ first_read (count_in c.args.word.now) c.self.inside.rest.now c.in_ok-line.line.now c.in_ok-line.rest.now c.in_ok-count.count.now
    c.in_ok-line.ensures.parts c.in_ok-count.ensures
