use Rattle.std.proofs.Common.{◌≡◌, map, take}
use Rattle.stop_tour.specs.Inside.Unlayering.{route_over}
use Rattle.stop_tour.proofs.tours.tour_routes.Given as goal

abbrev pub invariant-loop-route : goal.invariant-loop-route
invariant-loop-route l = l.out.items ≡ map (route_over l.arcs l.layers) (take l.route-index l.routes)
