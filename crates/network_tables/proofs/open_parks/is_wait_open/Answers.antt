use Rattle.std.proofs.Common.{ℕ, Option, List, ap, sym, ◌∙◌}
use Rattle.std.specs.Option.{option_map}
use Rattle.opening_hours.specs.declared.types.HoursRule.{HoursRule}
use Rattle.network_tables.specs.Access.{area_at, is_open_by, is_park_open}
use Rattle.network_tables.specs.Parking.{ParkRow}
use Rattle.network_tables.specs.Parks.{park_with, timetable_at}
use Rattle.network_tables.proofs.RatedRows.{row_of}
use Rattle.network_tables.proofs.open_parks.is_wait_open.Goals as goal

pub returns-in-None : goal.returns-in-None
returns-in-None c =
    let network = c.args.network.now in
    let parks = c.parks-parks.result.now in
    sym (ap (λ (row : Option ParkRow). is_park_open network row c.args.t)
    (row_of network parks c.args.v.0 c.parks-parks.ensures.value ∙ ap (option_map (park_with parks.timetables)) (sym c.rated.ensures.value ∙ c.in-None.is)))

pub returns-in-Some : goal.returns-in-Some
returns-in-Some c =
    let network = c.args.network.now in
    let parks = c.parks-parks.result.now in
    let k = c.in-Some.node.timetable in
    c.is_open_at.ensures
    ∙ ap (λ (o : Option (List HoursRule)). is_open_by o (area_at network c.area.result) c.args.t) c.hours-hours.ensures
    ∙ ap (λ (a : ℕ). is_open_by (timetable_at parks.timetables k).hours (area_at network a) c.args.t) (sym c.area.ensures)
    ∙ sym (ap (λ (row : Option ParkRow). is_park_open network row c.args.t)
    (row_of network parks c.args.v.0 c.parks-parks.ensures.value ∙ ap (option_map (park_with parks.timetables)) (sym c.rated.ensures.value ∙ c.in-Some.is)))
