use Rattle.std.proofs.Common.{sym, ap, ◌∙◌}
use Rattle.certificate.specs.Inside.LineForms.{piece_in}
use Rattle.certificate.specs.Inside.Reading.{token_lines, first_line}
use Rattle.certificate.proofs.CutLines.{first_read}
use Rattle.certificate.proofs.line_reader.LineReader.piece_node.Goals as goal

pub returns : goal.returns
returns c = (
  c.in_ok-node.field-0-1,
  token_lines c.in_ok-line.field-0-1.now,
  ap (first_line piece_in) (sym c.self.view_is)
      ∙ first_read piece_in c.self.inside.rest.now c.in_ok-line.line.now c.in_ok-line.field-0-1.now (c.in_ok-node.node, c.in_ok-node.field-0-1)
      c.in_ok-line.ensures.parts (sym c.read.ensures ∙ c.in_ok-node.was),
)
