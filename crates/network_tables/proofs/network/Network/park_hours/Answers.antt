use Rattle.std.proofs.Common.{Some, ap, sym, ◌∙◌}
use Rattle.std.specs.Option.{option_map}
use Rattle.network_tables.specs.NetworkModel.{NetworkModel, park_of}
use Rattle.network_tables.specs.Parking.{ParkRow}
use Rattle.network_tables.specs.Parks.{park_with}
use Rattle.network_tables.proofs.ParkLists.{rated_there, row_in}
use Rattle.network_tables.proofs.network.Network.park_hours.Goals as goal

pub unwrap-node-requires : goal.unwrap-node-requires
unwrap-node-requires c =
    let parks = c.self.inside.parts.parks in
    rated_there parks.timetables c.rated.result (park_of c.args.self.now c.args.v.0)
    (row_in c.args.self.now parks (ap (λ (n : NetworkModel). n.parks) c.self.view_is) c.args.v.0 c.rated.result c.rated.ensures.value) c.requires.rated

pub returns : goal.returns
returns c =
    let parks = c.self.inside.parts.parks in
    ap (option_map (λ (park : ParkRow). park.hours))
    (row_in c.args.self.now parks (ap (λ (n : NetworkModel). n.parks) c.self.view_is) c.args.v.0 c.rated.result c.rated.ensures.value
    ∙ ap (option_map (park_with parks.timetables)) c.unwrap-node.ensures)
    ∙ ap Some (sym c.hours.ensures)
