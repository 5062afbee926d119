use Rattle.std.proofs.Common.{◌≡◌, List, Some, map, sym, ◌∙◌, ap}
use Rattle.std.specs.Prelude.{slice_get}
use Rattle.table_reader.specs.NameIndex.{names_of, place_among}
use Rattle.vehicle_classes.specs.Vehicles.{VehicleEntry}
use Rattle.front_desk.proofs.NamedVehicles.{vehicle_there}
use Rattle.front_desk.proofs.requests.vehicle_of.Goals as goal

pub returns-clause-found : goal.returns-clause-found
returns-clause-found c =
    let vs = c.args.network.now.vehicles in
    let name = c.args.name.now in
    let i = c.in_ok-place.place in
    let at : place_among (names_of vs) name ≡ Some i =
    sym (ap (λ (l : List VehicleEntry). place_among (names_of l) name) c.vehicles.ensures)
    ∙ sym c.in_ok-place.ensures.place in
    let is = sym (ap (λ (l : List VehicleEntry). slice_get (map (λ (x : VehicleEntry). x.1) l) i) c.vehicles-2.ensures) ∙ c.vehicle.ensures in
    vehicle_there vs name i c.vehicle.result.now at is
