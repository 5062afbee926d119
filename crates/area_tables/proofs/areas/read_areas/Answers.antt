use Rattle.std.proofs.Common.{◌≡◌, None, subst, sym, ◌∙◌}
use Rattle.area_tables.specs.AreaPlaces.{HaveZones}
use Rattle.area_tables.specs.Areas.{areas_schema, areas_in, areas_or_default}
use Rattle.area_tables.specs.Zones.{ZoneList}
use Rattle.table_reader.specs.NameIndex.{value_under}
use Rattle.table_reader.specs.Records.{records_of, rows_of}
use Rattle.table_reader.specs.Schema.{first_table_fault}
use Rattle.area_tables.proofs.areas.read_areas.Goals as goal

pub returns : goal.returns
returns c =
    let bytes = c.args.bytes.now in
    let rows = areas_in (rows_of bytes) in
    let read = c.in_ok-table.ensures in
    let zones = read.stated.0 ∙ c.new.ensures.zones in
    let have = subst (λ (z : ZoneList). HaveZones z rows c.in_ok-table.table.areas) (c.new.ensures.zones ∙ sym zones) read.stated.1 in
    record {
      faultless =
          subst (λ (z : ZoneList). first_table_fault (areas_schema (value_under z)) (records_of bytes) ≡ None) c.new.ensures.zones read.faultless;
      stated =
          subst (λ (z : ZoneList). HaveZones z (areas_or_default rows) c.in_ok-into_areas.field-0) zones (c.in_ok-into_areas.ensures rows have);
      refused = tt;
      cause = tt;
    }
