use Rattle.std.proofs.Common.{◌==◌, arith, ap, length}
use Rattle.certificate.proofs.CutLines.{some_part}
use Rattle.certificate.proofs.lines.one_token.Goals as goal

pub returns-in-Some-clause-others : goal.returns-in-Some-clause-others
returns-in-Some-clause-others c = λ one. omega (arith, one, ap length c.in-Some.ensures.parts, some_part (λ b. b == 32) c.in-Some.field-0.1.now)
