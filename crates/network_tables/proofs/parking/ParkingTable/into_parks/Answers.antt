use Rattle.std.proofs.Common.{◌≡◌, sym, subst}
use Rattle.network_tables.specs.Parks.{HaveTimetables}
use Rattle.network_tables.specs.ParkRows.{ParkingSoFar, park_lists}
use Rattle.network_tables.proofs.parking.ParkingTable.into_parks.Goals as goal

pub new-requires : goal.new-requires
new-requires c =
    let have = subst (λ (t : ParkingSoFar). HaveTimetables (park_lists t)) (sym c.self.view_is) c.requires in
    rw (c.in_ok-timetables.ensures, c.in_ok-hours.ensures) have
