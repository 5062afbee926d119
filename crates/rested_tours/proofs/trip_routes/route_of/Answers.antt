use Rattle.std.proofs.Common.{All, map, refl, sym, ◌∙◌, ap, subst}
use Rattle.rested_tours.specs.Inside.ToldLegs.{IsNoService, as_tour_leg}
use Rattle.rested_tours.proofs.trip_routes.route_of.Goals as goal

pub trip_legs-requires : goal.trip_legs-requires
trip_legs-requires c = subst (All IsNoService) (sym c.as_slice.ensures) c.requires

pub returns : goal.returns
returns c = record {
  pair = refl;
  legs = sym c.as_slice.ensures ∙ sym c.in_ok-legs.ensures ∙ ap (map as_tour_leg) (sym c.from_vec.ensures);
}
