use Rattle.std.proofs.Common.{arith, rules}
use Rattle.certificate_check.proofs.legs.are_achieved.Goals as goal

pub returns : goal.returns
returns c = ((λ _ k d within. c.loop-route.invariant k d (omega (arith, within, c.loop-route-test.false)) within), (λ _. search rules))
