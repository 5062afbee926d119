use Rattle.std.proofs.Common.{◌≡◌, None, Some, ap, sym, subst, ◌∙◌, arith}
use Rattle.std.proofs.lemmas.Result.{on_ok_weaker, IfErr-weaker}
use Rattle.csv.specs.Records.{fields_of}
use Rattle.table_reader.specs.NameIndex.{names_of}
use Rattle.network_tables.specs.Parking.{cause_of_parking, parked_in, parked_of}
use Rattle.network_tables.specs.ParkRows.{HaveParks, ParkingSoFar}
use Rattle.network_tables.proofs.ParkLists.{added_node, free_node, taken_node, weaker_cause}
use Rattle.network_tables.proofs.parking.ParkingTableTable.add.Goals as goal

pub returns-clause-faultless : goal.returns-clause-faultless
returns-clause-faultless c =
    let table : ParkingSoFar = record {
      nodes = c.self.inside.nodes;
      ratings = c.self.inside.ratings;
      areas = c.self.inside.areas.now;
      hours = c.self.inside.hours;
      timetables = c.self.inside.timetables.keys;
      rated = c.self.inside.rated.entries;
    } in
    let row = fields_of c.args.row.now in
    on_ok_weaker c.put.result (λ free start before h.
    subst (λ (t : ParkingSoFar). cause_of_parking (parked_in t.nodes t.ratings (names_of t.areas) before) (parked_of t.nodes t.ratings (names_of t.areas) row)
    ≡ None) c.self.view_is
    (free_node table row c.read_row.new.hours c.in_ok-row.ensures.kept c.in_ok-row.row c.in_ok-row.ensures.there c.in_ok-row.ensures.value
    (omega (arith, c.if-row-lt1.false)) (omega (arith, c.if-row-self.false)) c.in-Some.weight c.in-Some.area c.in-Some.ensures.weight c.in-Some.ensures.area
    start before (subst (λ (t : ParkingSoFar). HaveParks start t before) (sym c.self.view_is) h) free))
    c.put.ensures.free

pub returns-clause-added : goal.returns-clause-added
returns-clause-added c =
    let table : ParkingSoFar = record {
      nodes = c.self.inside.nodes;
      ratings = c.self.inside.ratings;
      areas = c.self.inside.areas.now;
      hours = c.self.inside.hours;
      timetables = c.self.inside.timetables.keys;
      rated = c.self.inside.rated.entries;
    } in
    let row = fields_of c.args.row.now in
    on_ok_weaker c.put.result (λ put start before h.
    added_node table row c.read_row.new.hours c.in_ok-row.ensures.kept c.in_ok-row.row c.in_ok-row.ensures.there c.in_ok-row.ensures.value
    (omega (arith, c.if-row-lt1.false)) (omega (arith, c.if-row-self.false)) c.in-Some.weight c.in-Some.area c.in-Some.ensures.weight c.in-Some.ensures.area
    start before (subst (λ (t : ParkingSoFar). HaveParks start t before) (sym c.self.view_is) h) c.put.new.self put)
    c.put.ensures.put

pub returns-clause-refused : goal.returns-clause-refused
returns-clause-refused c =
    let table : ParkingSoFar = record {
      nodes = c.self.inside.nodes;
      ratings = c.self.inside.ratings;
      areas = c.self.inside.areas.now;
      hours = c.self.inside.hours;
      timetables = c.self.inside.timetables.keys;
      rated = c.self.inside.rated.entries;
    } in
    let row = fields_of c.args.row.now in
    IfErr-weaker c.put.result _ _ (λ e refused. weaker_cause e _ _ (λ cause both start before h.
    subst (λ (t : ParkingSoFar). cause_of_parking (parked_in t.nodes t.ratings (names_of t.areas) before) (parked_of t.nodes t.ratings (names_of t.areas) row)
    ≡ Some cause) c.self.view_is
    (taken_node table row c.read_row.new.hours c.in_ok-row.ensures.kept c.in_ok-row.row c.in_ok-row.ensures.there c.in_ok-row.ensures.value
    (omega (arith, c.if-row-lt1.false)) (omega (arith, c.if-row-self.false)) c.in-Some.weight c.in-Some.area c.in-Some.ensures.weight c.in-Some.ensures.area
    start before (subst (λ (t : ParkingSoFar). HaveParks start t before) (sym c.self.view_is) h) both.1
    ∙ ap Some (sym both.0))) refused)
    c.put.ensures.refused
