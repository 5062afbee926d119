use Rattle.route_base.proofs.AgreeingWalks.{flipped}
use Rattle.certificate_check.proofs.Agreeing.{verdict_too}
use Rattle.certificate_check.proofs.laws.verdicts_agree.Goals as goal

pub returns : goal.returns
returns c = λ s z w r same within k v. (verdict_too s z w r same within k v, verdict_too z s w r (flipped s z w same) within k v)
