use Rattle.std.proofs.Common.{ap, ◌∙◌}
use Rattle.std.specs.Str.{bytes_eq}
use Rattle.certificate.specs.Inside.Reading.{is_end}
use Rattle.certificate.proofs.CutText.{end_test}
use Rattle.certificate.proofs.line_reader.LineReader.is_at_end.Goals as goal

pub returns : goal.returns
returns c = c.eq.ensures ∙ ap (bytes_eq c.self.inside.rest.now) c.as_slice.ensures ∙ end_test c.self.inside.rest.now ∙ ap is_end c.self.view_is
