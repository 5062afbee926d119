-- What is asked of tours over a net, and what it gives to their search over states, whatever rules they keep.
use Rattle.std.proofs.Common.{◌≡◌, ℕ, suc, ◌≤◌, ◌<◌, ◌^◌, Some, List, length, map, All, sym, ◌∙◌, ap, arith}
use Rattle.std.specs.Prelude.{slice_get}
use Rattle.std.proofs.lemmas.List.{length-map}
use Rattle.std.proofs.lemmas.Option.{slice_get-map, slice_get_within}
use Rattle.route_base.specs.Setting.{Road}
use Rattle.route_base.specs.Net.{Net, IsGoodNet, IsGoodRequest, road_of, at_number, setting_of}
use Rattle.route_base.specs.declared.types.Request.{Request}
use Rattle.route_base.proofs.Arcs.{good_arc, takes_time}
use Rattle.route_base.proofs.Logic.{map_some, flat_some}
use Rattle.route_base.proofs.Numbered.{at_number-all, number_within}
use Rattle.route_base.proofs.Parks.{rated_park}
use Rattle.ruled_states.specs.Inside.Codes.{base}
use Rattle.ruled_states.specs.Inside.Services.{service_at}
use Rattle.ruled_states.specs.declared.rulers.Service.{Service as RuledService}
use Rattle.state_dominance.specs.Inside.Product.{Ruler, Service, IsBase}
use Rattle.state_dominance.specs.Serving.{serving}
use Rattle.stop_tour.specs.Tours.{IsGoodStop}
use Rattle.stop_tour.specs.declared.stops.Stop.{Stop}
use Rattle.rested_tours.specs.Inside.TourRuler.{stop_service}

-- the net is well formed, the request is one over it, and the stops are right
pub record IsAsked (net : Net) (r : Request) (stops : List Stop) : Type 0 where
  pub good : IsGoodNet net
  pub ends : IsGoodRequest net r
  pub in_time : r.depart ≤ r.until
  pub each_stop : All (IsGoodStop net) stops
  pub count : length stops < 2 ^ 32

pub asked_of : {net : Net} {r : Request} {stops : List Stop} → IsGoodNet net → IsGoodRequest net r → r.depart ≤ r.until → All (IsGoodStop net) stops
    → length stops < 2 ^ 32 → IsAsked net r stops
asked_of good ends in_time each_stop count = record { good = good; ends = ends; in_time = in_time; each_stop = each_stop; count = count }

-- there are as many services as stops
pub as_many : (services : List RuledService) (stops : List Stop) → map service_at services ≡ map stop_service stops → length services ≡ length stops
as_many services stops same = sym (length-map services service_at) ∙ ap length same ∙ length-map stops stop_service

module _ (net : Net) (r : Request) (stops : List Stop) (asked : IsAsked net r stops) where
  pub low_origin : r.origin.0 < base
  low_origin = omega (arith, asked.ends.origin.1, asked.good.nodes)

  pub long_stops : (i : ℕ) (stop : Stop) → at_number stops i ≡ Some stop → 1 ≤ stop.service
  long_stops i stop is = (at_number-all (IsGoodStop net) stops i stop asked.each_stop is).service.0

  -- a service is that of a stop
  service_stop : (i : ℕ) (c : Service) → slice_get (map stop_service stops) i ≡ Some c
      → (i < length stops) × (stop : Stop) × (stop_service stop ≡ c) × IsGoodStop net stop
  service_stop i c is =
      let found = map_some (slice_get stops i) stop_service c (sym (slice_get-map stop_service stops i) ∙ is) in
      (slice_get_within stops i found.0 found.1, found.0, found.2, at_number-all (IsGoodStop net) stops (suc i) found.0 asked.each_stop found.1)

  pub stops_base : (rules : Ruler) → ((i minutes : ℕ) → slice_get rules.rests i ≡ Some minutes → (i < base) × (1 ≤ minutes))
      → IsBase (setting_of net) (serving (map stop_service stops) rules) base
  stops_base rules rests = record {
    arcs = λ a road is.
        let arc = map_some (at_number net.arcs a) road_of road is in
        let fine = good_arc net asked.good a arc.0 arc.1 in
        let number = number_within net.arcs a arc.0 arc.1 in (
          omega (arith, number.1, asked.good.arcs),
          omega (arith, fine.tail.1, asked.good.nodes, ap (λ (w : Road). w.tail) arc.2),
          omega (arith, fine.head.1, asked.good.nodes, ap (λ (w : Road). w.head) arc.2),
        );
    rests = λ i minutes is. (rests i minutes is).0;
    nodes = λ v weight is.
        let park = rated_park net asked.good v weight is in
        let number = number_within net.parks v (Some park.0) (flat_some (at_number net.parks v) park.0 park.1) in
        omega (arith, number.1, asked.good.parks, asked.good.nodes);
    services = λ i c is.
        let stop = service_stop i c is in (
          omega (arith, stop.0, asked.count),
          omega (arith, stop.3.node.1, asked.good.nodes, ap (λ (w : Service). w.node) stop.2),
        );
    arc_times = takes_time net asked.good;
    rest_times = λ i minutes is. (rests i minutes is).1;
    service_times = λ i c is.
        let stop = service_stop i c is in
        omega (arith, stop.3.service.0, ap (λ (w : Service). w.minutes) stop.2);
  }
