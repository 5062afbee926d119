use Rattle.std.proofs.Common.{ap, sym, ◌∙◌}
use Rattle.std.specs.Option.{option_map}
use Rattle.network_tables.specs.NetworkModel.{NetworkModel}
use Rattle.network_tables.specs.Parking.{ParkRow}
use Rattle.network_tables.specs.Parks.{park_with}
use Rattle.network_tables.proofs.ParkLists.{row_in}
use Rattle.network_tables.proofs.network.Network.weight.Goals as goal

pub returns-in-Some-clause-value : goal.returns-in-Some-clause-value
returns-in-Some-clause-value c =
    let parks = c.self.inside.parts.parks in
    sym (ap (option_map (λ (park : ParkRow). park.weight))
    (row_in c.args.self.now parks (ap (λ (n : NetworkModel). n.parks) c.self.view_is) c.args.v.0 c.rated.result c.rated.ensures.value
    ∙ ap (option_map (park_with parks.timetables)) c.in-Some.is))

pub returns-in-None-clause-value : goal.returns-in-None-clause-value
returns-in-None-clause-value c =
    let parks = c.self.inside.parts.parks in
    sym (ap (option_map (λ (park : ParkRow). park.weight))
    (row_in c.args.self.now parks (ap (λ (n : NetworkModel). n.parks) c.self.view_is) c.args.v.0 c.rated.result c.rated.ensures.value
    ∙ ap (option_map (park_with parks.timetables)) c.in-None.is))
