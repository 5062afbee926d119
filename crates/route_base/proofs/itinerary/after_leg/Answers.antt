use Rattle.std.proofs.Common.{sym, subst}
use Rattle.route_base.specs.Net.{setting_of}
use Rattle.route_base.specs.Replay.{position_of, IsUnlawful}
use Rattle.route_base.specs.declared.types.Leg.{Leg}
use Rattle.route_base.proofs.itinerary.after_leg.Goals as goal

pub returns-in-Drive-clause-none : goal.returns-in-Drive-clause-none
returns-in-Drive-clause-none c = λ none. subst (λ (leg : Leg). IsUnlawful (setting_of c.args.net.now) c.args.until leg
    (position_of c.args.at)) (sym c.in-Drive.is) (c.after_drive.ensures.none none)
