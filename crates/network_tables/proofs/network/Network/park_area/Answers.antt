use Rattle.std.proofs.Common.{ℕ, ◌<◌, Option, Some, ap, subst, ◌∙◌, length}
use Rattle.std.specs.Option.{option_map}
use Rattle.std.specs.Prelude.{IfSome}
use Rattle.network_tables.specs.NetworkModel.{NetworkModel, park_of}
use Rattle.network_tables.specs.NetworkParts.{network_with}
use Rattle.network_tables.specs.Parking.{ParkRow}
use Rattle.network_tables.specs.Parks.{HasTimetable, Timetable, park_with}
use Rattle.network_tables.specs.declared.parks.RatedNode.{RatedNode}
use Rattle.network_tables.proofs.ParkLists.{area_there, rated_there, row_in}
use Rattle.network_tables.proofs.network.Network.park_area.Goals as goal

pub unwrap-node-requires : goal.unwrap-node-requires
unwrap-node-requires c =
    let parks = c.self.inside.parts.parks in
    rated_there parks.timetables c.rated.result (park_of c.args.self.now c.args.v.0)
    (row_in c.args.self.now parks (ap (λ (n : NetworkModel). n.parks) c.self.view_is) c.args.v.0 c.rated.result c.rated.ensures.value) c.requires.rated

pub returns-clause-value : goal.returns-clause-value
returns-clause-value c =
    let parks = c.self.inside.parts.parks in
    ap (option_map (λ (park : ParkRow). park.area))
    (row_in c.args.self.now parks (ap (λ (n : NetworkModel). n.parks) c.self.view_is) c.args.v.0 c.rated.result c.rated.ensures.value
    ∙ ap (option_map (park_with parks.timetables)) c.unwrap-node.ensures)
    ∙ ap Some c.area.ensures

pub returns-clause-there : goal.returns-clause-there
returns-clause-there c =
    let parks = c.self.inside.parts.parks in
    let there : HasTimetable parks.timetables c.unwrap-node.result =
    subst (λ (o : Option RatedNode). IfSome o (HasTimetable parks.timetables)) c.unwrap-node.ensures c.rated.ensures.there in
    subst (λ (n : NetworkModel). c.area.result < length n.areas) c.self.view_is
    (subst (λ (a : ℕ). a < length (network_with c.self.inside.parts).areas) c.area.ensures
    (area_there (length (network_with c.self.inside.parts).areas) parks.timetables c.unwrap-node.result.timetable c.self.invariant.timed there))
