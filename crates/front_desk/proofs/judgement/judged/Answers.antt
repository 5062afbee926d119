use Rattle.std.proofs.Common.{ℕ, List, refl, subst}
use Rattle.route_base.specs.Net.{setting_of}
use Rattle.certificate.specs.Writable.{IsCertificateText, IsNoCertificateText}
use Rattle.front_desk.proofs.Judgements.{judged_by, judged_unread}
use Rattle.front_desk.proofs.judgement.judged.Goals as goal

pub returns-in-Err-NotACertificate : goal.returns-in-Err-NotACertificate
returns-in-Err-NotACertificate c =
    judged_unread (setting_of c.args.net.now) c.args.request c.args.bytes _
    (subst IsNoCertificateText c.as_slice.ensures (c.in-Err-NotACertificate.ensures.none c.in-Err-NotACertificate.field-0-is)) refl
    c.in_ok-check_text-in-Err-NotACertificate.ensures

pub returns : goal.returns
returns c =
    judged_by (setting_of c.args.net.now) c.args.request c.args.bytes c.in_ok-report.report c.in-Ok.certificate
    (subst (λ (bytes : List ℕ). IsCertificateText bytes c.in-Ok.certificate) c.as_slice.ensures c.in-Ok.ensures.found)
    c.in_ok-verdict.verdict c.in_ok-verdict.ensures.verdict c.in_ok-verdict.ensures.sound c.in_ok-report.ensures
