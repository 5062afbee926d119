use Rattle.std.proofs.Common.{sym, subst}
use Rattle.csv.specs.Records.{fields_of}
use Rattle.area_tables.specs.Zones.{ZoneEntry, HasRows, zone_entry_of, zone_entries_in}
use Rattle.table_reader.proofs.Lists.{filter_map-push}
use Rattle.area_tables.proofs.ZoneRows.{HasRows-more, on_ok}
use Rattle.area_tables.proofs.zones.ZoneTableTable.add.Goals as goal

pub returns-clause-added : goal.returns-clause-added
returns-clause-added c =
    on_ok c.add_row.result (λ added start before has.
    let e : ZoneEntry = (c.in-Some.name.now, c.in-Some.row) in
    subst (HasRows c.add_row.new.self) (sym (filter_map-push zone_entry_of before (fields_of c.args.row.now) e (sym c.in-Some.ensures.value)))
    (HasRows-more c.args.self.now c.add_row.new.self (zone_entries_in before) e has added)) c.add_row.ensures.added
