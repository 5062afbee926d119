use Rattle.std.proofs.Common.{subst, rules}
use Rattle.route_base.specs.Net.{setting_of}
use Rattle.route_base.specs.Legs.{Achieves}
use Rattle.route_base.specs.declared.types.Pair.{Pair}
use Rattle.certificate_check.proofs.Lawful.{achieved_once, fails}
use Rattle.certificate_check.proofs.legs.is_achieved.Goals as goal

pub returns-in-Ok : goal.returns-in-Ok
returns-in-Ok c =
    let s = setting_of c.args.net.now in
    let legs = c.args.legs.now in (
      (λ h. subst (λ (p : Pair). Achieves s c.args.request legs p) (c.are_same.ensures.0 h) c.in-Ok.ensures.ok),
      (λ a. c.are_same.ensures.1 (achieved_once s c.args.request legs c.in-Ok.found c.args.pair c.in-Ok.ensures.ok a)),
    )

pub returns-in-Err : goal.returns-in-Err
returns-in-Err c = ((λ h. search rules), (λ a. absurd (fails (setting_of c.args.net.now) c.args.request c.args.legs.now _ c.args.pair c.in-Err.ensures.err a)))
