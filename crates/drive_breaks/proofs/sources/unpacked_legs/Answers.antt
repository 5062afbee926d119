use Rattle.std.proofs.Common.{◌+◌, ◌++◌, List, length, get_or, take, sym, ◌∙◌, ap, arith, length-append}
use Rattle.route_base.specs.Itinerary.{Step}
use Rattle.route_base.specs.Legs.{steps_of, steps_of_leg}
use Rattle.route_base.specs.declared.types.Leg.{Leg}
use Rattle.route_base.specs.declared.types.Leg.TheVariants.{Drive}
use Rattle.drive_breaks.specs.Inside.Unpacking.{unpacked}
use Rattle.drive_breaks.proofs.Unpacked.{steps_next, steps_within}
use Rattle.drive_breaks.proofs.sources.unpacked_legs.Goals as goal

abbrev first_arc : Leg
first_arc = Drive (record { 0 = 0 })

pub push_leg-requires-clause-room : goal.push_leg-requires-clause-room
push_leg-requires-clause-room c =
    let i = c.loop-leg.leg-index in
    record {
      tidy = c.loop-leg.invariant.tidy;
      short = omega (
        arith,
        c.requires.short,
        steps_within c.args.sources.now c.args.legs.now (i + 1),
        ap (λ (w : List Step). length w) (steps_next c.args.sources.now c.args.legs.now i first_arc c.loop-leg-test.true),
        length-append (unpacked c.args.sources.now (steps_of (take i c.args.legs.now)))
            (unpacked c.args.sources.now (steps_of_leg (get_or c.args.legs.now i first_arc))),
        ap (λ (w : List Step). length w) c.loop-leg.invariant.steps,
        ap (λ (w : List Step). length w) c.source_of.ensures.steps,
      );
    }

pub loop-leg-preserved : goal.loop-leg-preserved
loop-leg-preserved c =
    let i = c.loop-leg.leg-index in
    record {
      tidy = c.in_ok-push_leg.ensures.tidy;
      steps = c.in_ok-push_leg.ensures.steps ∙ ap (λ (w : List Step). w ++ steps_of_leg c.source_of.result) c.loop-leg.invariant.steps
          ∙ ap (λ (w : List Step). unpacked c.args.sources.now (steps_of (take i c.args.legs.now)) ++ w) c.source_of.ensures.steps
          ∙ sym (steps_next c.args.sources.now c.args.legs.now i first_arc c.loop-leg-test.true);
    }
