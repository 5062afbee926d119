use Rattle.std.proofs.Common.{subst}
use Rattle.route_base.specs.Net.{setting_of}
use Rattle.certificate_check.specs.Verdicts.{IsVerdict}
use Rattle.certificate_check.proofs.Sound.{sound}
use Rattle.certificate_check.proofs.checker.check.Goals as goal

pub returns-then-are_reduced-clause-sound : goal.returns-then-are_reduced-clause-sound
returns-then-are_reduced-clause-sound c = λ accepted.
    let s = setting_of c.args.net.now in
    sound s c.args.request c.args.certificate.now (subst (IsVerdict s c.args.request c.args.certificate.now) accepted c.verdict_of.ensures)

pub returns-clause-sound : goal.returns-clause-sound
returns-clause-sound c = λ accepted.
    let s = setting_of c.args.net.now in
    sound s c.args.request c.args.certificate.now (subst (IsVerdict s c.args.request c.args.certificate.now) accepted c.verdict_of-2.ensures)
