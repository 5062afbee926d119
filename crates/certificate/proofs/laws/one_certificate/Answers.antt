use Rattle.certificate.proofs.Whole.{one_certificate}
use Rattle.certificate.proofs.laws.one_certificate.Goals as goal

pub returns : goal.returns
returns c = one_certificate
