use Rattle.front_desk.proofs.Handing.{stops_handing}
use Rattle.front_desk.proofs.plan.hand_over.Goals as goal

pub returns-in_err-put_certificate : goal.returns-in_err-put_certificate
returns-in_err-put_certificate g c =
    stops_handing _ _ c.args.dir.now c.args.planned _ _ c.from_residual.ensures.1 c.in_err-put_certificate.ensures.unwritten
