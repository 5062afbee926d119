-- The names that clauses of this crate cite, passed on from where they are defined (source: own).
pub use Rattle.csv.specs.Records.{fields_of}
pub use Rattle.std.specs.List.{IsDistinct, last_or}
pub use Rattle.std.specs.Str.{bytes_eq}
pub use Rattle.table_reader.specs.ByNumber.{numbered_in}
pub use Rattle.table_reader.specs.NameIndex.{value_under, names_of, place_among}
pub use Rattle.table_reader.specs.Records.{records_of, rows_of}
pub use Rattle.table_reader.specs.Refusals.{IfBadCause, ReadsRows}
pub use Rattle.table_reader.specs.Schema.{first_table_fault}
pub use Rattle.zone_rules.specs.Zones.{is_offset, is_later}
pub use Rattle.area_tables.specs.AreaPlaces.{HaveZones}
pub use Rattle.area_tables.specs.Areas.{AreaEntry, area_of_record, areas_in, areas_schema, areas_or_default}
pub use Rattle.area_tables.specs.Holidays.{holidays_schema, holidays_in, holidays_named, in_calendar}
pub use Rattle.area_tables.specs.Inside.{HaveDays}
pub use Rattle.area_tables.specs.Roads.{roads_schema, area_by_arc}
pub use Rattle.area_tables.specs.Zones.{HasZones, zone_entries_in, ZoneEntry, zone_entry_of, zones_schema, HasRows}
