use Rattle.std.proofs.Common.{◌≡◌, sym, subst}
use Rattle.route_base.specs.Net.{setting_of}
use Rattle.certificate.specs.declared.Certificate.{Certificate}
use Rattle.certificate.proofs.Whole.{one_certificate}
use Rattle.certificate_check.specs.Verdicts.{IsGood, IsVerdict}
use Rattle.certificate_check.specs.declared.checker.Verdict.{Verdict}
use Rattle.certificate_check.proofs.Failing.{good_never_fails}
use Rattle.uses.proofs.judgements.certified_routes.Goals as goal

pub returns-in-Err-NotACertificate-clause-none : goal.returns-in-Err-NotACertificate-clause-none
returns-in-Err-NotACertificate-clause-none c = λ d text good. c.in-Err-NotACertificate.ensures.none c.in-Err-NotACertificate.field-0-is d text

pub returns-in-Rejected-clause-none : goal.returns-in-Rejected-clause-none
returns-in-Rejected-clause-none c = λ d text good.
    let s = setting_of c.args.net.now in
    let same : c.in-Ok.certificate ≡ d = one_certificate c.args.bytes.now c.in-Ok.certificate d c.in-Ok.ensures.found text in
    good_never_fails s c.args.request c.in-Ok.certificate c.in-Rejected.field-0
    (subst (λ (w : Certificate). IsGood s c.args.request w) (sym same) good)
    (subst (λ (v : Verdict). IsVerdict s c.args.request c.in-Ok.certificate v) c.in-Rejected.is c.in_ok-check.ensures.verdict)
