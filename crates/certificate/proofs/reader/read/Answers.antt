use Rattle.std.proofs.Common.{sym, ◌∙◌}
use Rattle.certificate.proofs.Whole.{text_found, text_back}
use Rattle.certificate.proofs.reader.read.Goals as goal

pub returns-in-Some-clause-found : goal.returns-in-Some-clause-found
returns-in-Some-clause-found c = text_found c.args.bytes.now c.in-Some.certificate (sym c.in_ok-certificate.ensures ∙ c.in-Some.is)

pub returns-in-None-clause-none : goal.returns-in-None-clause-none
returns-in-None-clause-none c = λ why d is.
    absurd (let read = sym c.in-None.is ∙ c.in_ok-certificate.ensures ∙ text_back c.args.bytes.now d is in cc)
