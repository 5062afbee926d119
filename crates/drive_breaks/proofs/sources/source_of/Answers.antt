use Rattle.std.proofs.Common.{sym, ◌∙◌, ap, subst}
use Rattle.route_base.specs.Legs.{steps_of_leg}
use Rattle.route_base.specs.declared.types.Leg.{Leg}
use Rattle.route_base.specs.declared.types.Leg.TheVariants.{Drive}
use Rattle.drive_breaks.specs.Inside.Unpacking.{unpacked, IsSourced}
use Rattle.drive_breaks.proofs.Unpacked.{source_is, source_steps, unpacked_waits}
use Rattle.drive_breaks.proofs.sources.source_of.Goals as goal

pub returns-in-Drive-clause-steps : goal.returns-in-Drive-clause-steps
returns-in-Drive-clause-steps c =
    let one : IsSourced c.args.sources.now (Drive c.in-Drive.x) = subst (IsSourced c.args.sources.now) c.in-Drive.is c.requires in
    ap steps_of_leg (source_is c.args.sources.now c.in-Drive.x.0 one.0 (Drive (record { 0 = 0 })) one.1)
    ∙ source_steps c.args.sources.now c.in-Drive.x.0 one.0 one.1 ∙ ap (λ (l : Leg). unpacked c.args.sources.now (steps_of_leg l)) (sym c.in-Drive.is)

pub returns-in-Drive-clause-some : goal.returns-in-Drive-clause-some
returns-in-Drive-clause-some c =
    let one : IsSourced c.args.sources.now (Drive c.in-Drive.x) = subst (IsSourced c.args.sources.now) c.in-Drive.is c.requires in
    λ same. one.2 (sym (source_is c.args.sources.now c.in-Drive.x.0 one.0 (Drive (record { 0 = 0 })) one.1) ∙ same)

pub returns-in-Wait-clause-steps : goal.returns-in-Wait-clause-steps
returns-in-Wait-clause-steps c =
    unpacked_waits c.args.sources.now c.in-Wait.minutes ∙ ap (λ (l : Leg). unpacked c.args.sources.now (steps_of_leg l)) (sym c.in-Wait.is)
