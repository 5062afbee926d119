use Rattle.std.proofs.Common.{List, ℕ, sym, subst}
use Rattle.std.specs.Prelude.{All, length}
use Rattle.std.proofs.lemmas.List.Elements.{All-map}
use Rattle.network_tables.specs.Parks.{IsTimedIn, ParkLists, timetable_with}
use Rattle.network_tables.proofs.parking.read_parking.Goals as goal

pub returns-clause-placed : goal.returns-clause-placed
returns-clause-placed c =
    let areas : ℕ = length c.args.areas.now in
    let table = c.in_ok-table.table in
    subst (λ (p : ParkLists). All (IsTimedIn areas) p.timetables) (sym c.in_ok-into_parks.ensures)
    (All-map (IsTimedIn areas) (timetable_with table.hours) table.timetables
    (λ k d within. (c.in_ok-table.ensures.stated.timetables k d within).placed))
