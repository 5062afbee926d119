use Rattle.std.proofs.Common.{sym}
use Rattle.route_base.proofs.AgreeingWalks.{flipped}
use Rattle.plan_certificate.proofs.TightSettings.{tight_too, cheap_too}
use Rattle.plan_certificate.proofs.laws.certificates_agree.Goals as goal

pub returns-clause-tight : goal.returns-clause-tight
returns-clause-tight c = λ s z w r same within k. (tight_too s z w r same within k, tight_too z s w r (flipped s z w same) within k)

pub returns-clause-cheap : goal.returns-clause-cheap
returns-clause-cheap c = λ s z w same. (cheap_too s z same.road, cheap_too z s (λ a. sym (same.road a)))
