use Rattle.std.proofs.Common.{◌≡◌, ◌-◌, ◌++◌, length, get_or, List, sym, ◌∙◌, ap, arith, length-append}
use Rattle.std.proofs.lemmas.List.{get_or_default}
use Rattle.route_base.specs.Itinerary.{Step}
use Rattle.route_base.specs.Legs.{steps_of, steps_of_leg}
use Rattle.route_base.specs.declared.types.Leg.{Leg}
use Rattle.route_base.specs.declared.types.Leg.TheVariants.{Drive}
use Rattle.plain_search.specs.Inside.Predecessors.{IsSingle}
use Rattle.plain_search.proofs.Tidying.{length-single, steps-next}
use Rattle.plain_search.proofs.legs.tidied.Goals as goal

pub push_leg-requires-clause-room : goal.push_leg-requires-clause-room
push_leg-requires-clause-room c =
    let leg : Leg = get_or c.args.back.now (c.loop-left.left - 1) (Drive (record { 0 = 0 })) in
    let one : IsSingle leg = c.requires.single (c.loop-left.left - 1) (Drive (record { 0 = 0 })) (omega arith) in
    record { tidy = c.loop-left.invariant.tidy; short = omega (arith, length-single leg one, c.loop-left.invariant.size) }

pub loop-left-preserved : goal.loop-left-preserved
loop-left-preserved c =
    let leg : Leg = get_or c.args.back.now (c.loop-left.left - 1) (Drive (record { 0 = 0 })) in
    let one : IsSingle leg = c.requires.single (c.loop-left.left - 1) (Drive (record { 0 = 0 })) (omega arith) in
    let grown = c.in_ok-push_leg.ensures.steps in
    let itself : leg ≡ get_or c.args.back.now (c.loop-left.left - 1) leg = get_or_default c.args.back.now (c.loop-left.left - 1)
    (Drive (record { 0 = 0 })) leg (omega arith) in
    record {
      size = omega (
        arith,
        ap (λ (w : List Step). length w) grown,
        length-append (steps_of c.loop-left.legs.items)
            (steps_of_leg leg),
        length-single leg one,
        c.loop-left.invariant.size,
      );
      within = omega arith;
      tidy = c.in_ok-push_leg.ensures.tidy;
      steps = grown ∙ ap (λ (w : List Step). w ++ steps_of_leg leg) c.loop-left.invariant.steps
          ∙ sym (steps-next c.args.back.now c.loop-left.left leg (omega arith) (omega arith) itself);
    }
