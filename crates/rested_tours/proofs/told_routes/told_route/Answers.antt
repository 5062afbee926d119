use Rattle.std.proofs.Common.{All, List, refl, sym, subst}
use Rattle.ruled_search.specs.declared.routes.RuledLeg.{RuledLeg}
use Rattle.rested_tours.specs.Inside.ToldLegs.{AreTellable, AreTourLegs, IsLegNumbered}
use Rattle.rested_tours.proofs.told_routes.told_route.Goals as goal

pub tour_legs-requires : goal.tour_legs-requires
tour_legs-requires c =
    subst (AreTellable c.args.rest) (sym c.as_slice-2.ensures.value)
    (c.requires (subst (All IsLegNumbered) c.as_slice.ensures.value c.legs_are_numbered.ensures))

pub returns : goal.returns
returns c = record {
  pair = refl;
  numbered = subst (All IsLegNumbered) c.as_slice.ensures.value c.legs_are_numbered.ensures;
  legs = subst (AreTourLegs c.args.rest c.args.route.now.legs.items) (sym c.from_vec.ensures)
      (subst (λ (w : List RuledLeg). AreTourLegs c.args.rest w c.in_ok-legs.legs.items) c.as_slice-2.ensures.value c.in_ok-legs.ensures);
}
