use Rattle.std.proofs.Common.{◌≡◌, List, ℕ, sym, ◌∙◌, ap, subst, rules}
use Rattle.route_base.specs.Matching.{StandsFor}
use Rattle.route_base.specs.Net.{setting_of}
use Rattle.vehicle_classes.specs.VehicleModel.{VehicleModel}
use Rattle.network_tables.specs.RoadSetting.{road_setting}
use Rattle.front_desk.specs.Trips.{vehicle_named}
use Rattle.front_desk.proofs.shared_nets.shared_net.Goals as goal

pub returns-clause-right : goal.returns-clause-right
returns-clause-right c =
    let name : c.in_ok-to_vec.field-0.items ≡ c.args.trip.vehicle.now = search rules in
    record {
      stands = subst (λ (v : VehicleModel). StandsFor (setting_of c.in_ok-net.net) (road_setting c.args.network.now v) c.args.window)
          (c.requires.checked.named ∙ ap (vehicle_named c.args.network.now) (sym name)) c.in_ok-net.ensures.stands;
      arcs = c.in_ok-arcs.ensures;
    }
