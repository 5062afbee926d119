use Rattle.front_desk.proofs.AcceptedCertificates.{good_certificate}
use Rattle.front_desk.proofs.laws.written_certificates_are_good.Goals as goal

pub returns : goal.returns
returns c = good_certificate
