use Rattle.std.proofs.Common.{◌≡◌, All, map, take}
use Rattle.route_base.specs.Legs.{Achieves, HasNoNeighbouringWaits}
use Rattle.route_base.specs.Net.{setting_of}
use Rattle.route_base.specs.declared.types.Route.{Route}
use Rattle.route_base.specs.FirstItinerary.{AreFirst}
use Rattle.itinerary_unpack.proofs.routes.routes_of.Given as goal

abbrev pub invariant-loop-k : goal.invariant-loop-k
invariant-loop-k l = record {
  pairs : map (λ (x : Route). x.pair) l.routes.items ≡ take l.k l.found.pairs;
  legs : All (λ (x : Route). Achieves (setting_of l.net) l.request x.legs x.pair × HasNoNeighbouringWaits x.legs) l.routes.items;
  first : AreFirst (setting_of l.net) l.request l.routes.items;
}
