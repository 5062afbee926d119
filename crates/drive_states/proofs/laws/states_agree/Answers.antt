use Rattle.std.proofs.Common.{sym}
use Rattle.drive_states.proofs.AgreeingStates.{too_many}
use Rattle.drive_states.proofs.laws.states_agree.Goals as goal

pub returns : goal.returns
returns c = λ s z w origin rule same. (
  too_many s z same.road same.weight origin rule,
  too_many z s (λ a. sym (same.road a)) (λ v. sym (same.weight v)) origin rule,
)
