use Rattle.std.proofs.Common.{◌+◌, ◌++◌, List, length, get_or, take, sym, ◌∙◌, ap, arith, length-append}
use Rattle.stop_tour.specs.Tours.{TourStep}
use Rattle.ruled_search.specs.declared.routes.RuledLeg.{RuledLeg}
use Rattle.ruled_search.specs.declared.routes.RuledLeg.TheVariants.{Drive}
use Rattle.rested_tours.specs.Inside.ToldLegs.{told, told_by}
use Rattle.rested_tours.proofs.Told.{told_next, told_within}
use Rattle.rested_tours.proofs.legs.tour_legs.Goals as goal

pub push_told-requires-clause-room : goal.push_told-requires-clause-room
push_told-requires-clause-room c =
    let rest = c.args.rest in
    let legs : List RuledLeg = c.args.legs.now in
    let i = c.loop-leg.leg-index in
    let d : RuledLeg = Drive (record { 0 = 0 }) in
    record {
      tidy = c.loop-leg.invariant.tidy;
      short = omega (
        arith,
        c.requires.short,
        told_within rest legs (i + 1),
        ap (λ (w : List TourStep). length w) (told_next rest legs i d c.loop-leg-test.true),
        length-append (told rest (take i legs)) (told_by rest (get_or legs i d)),
        ap (λ (w : List TourStep). length w) c.loop-leg.invariant.steps,
      );
    }

pub loop-leg-preserved : goal.loop-leg-preserved
loop-leg-preserved c =
    let rest = c.args.rest in
    let legs : List RuledLeg = c.args.legs.now in
    let i = c.loop-leg.leg-index in
    let d : RuledLeg = Drive (record { 0 = 0 }) in
    record {
      tidy = c.in_ok-push_told.ensures.tidy;
      steps = c.in_ok-push_told.ensures.steps ∙ ap (λ (w : List TourStep). w ++ told_by rest (get_or legs i d)) c.loop-leg.invariant.steps
          ∙ sym (told_next rest legs i d c.loop-leg-test.true);
    }
