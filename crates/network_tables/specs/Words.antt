-- The names that clauses of this crate cite, passed on from where they are defined (source: own).
pub use Rattle.csv.specs.Records.{fields_of}
pub use Rattle.route_base.specs.Net.{at_number}
pub use Rattle.std.specs.Option.{option_flatten}
pub use Rattle.table_reader.specs.NameIndex.{value_under, names_of}
pub use Rattle.table_reader.specs.Records.{rows_of}
pub use Rattle.table_reader.specs.Refusals.{IfBadCause}
pub use Rattle.area_tables.specs.AreaPlaces.{HaveZones}
pub use Rattle.area_tables.specs.Holidays.{holidays_named}
pub use Rattle.area_tables.specs.Zones.{HasZones, zone_entries_in}
pub use Rattle.network_tables.specs.Closures.{closure_of, closures_schema, closures_in, runs_by_arc}
pub use Rattle.network_tables.specs.NetworkFiles.{areas_of, areas_fault, arc_count_of, closed_runs_of, closures_fault, holidays_of, holidays_fault, ratings_of, ratings_fault, roads_of, roads_fault, rules_of, rules_fault, tolls_of, tolls_fault, vehicles_of, vehicles_fault, zones_fault}
pub use Rattle.network_tables.specs.NetworkModel.{closures_of, park_of, toll_at, weight_at, IsGoodNetwork}
pub use Rattle.network_tables.specs.NetworkParts.{network_with, HoldsNetwork}
pub use Rattle.network_tables.specs.Parks.{parks_with, timetable_at, timetable_with, HasTimetable, HaveTimetables, IsTimedIn}
pub use Rattle.network_tables.specs.Ratings.{rating_of, ratings_schema, ratings_in}
pub use Rattle.network_tables.specs.Refusals.{Reads}
pub use Rattle.network_tables.specs.Rules.{rules_schema, rule_value_at, plain_at, conditional_at, is_arc, has_arc_rules, has_own_rules}
pub use Rattle.network_tables.specs.RuleLists.{HaveRules, with_rule, with_passed_row}
pub use Rattle.network_tables.specs.Tolls.{toll_of, toll_for, tolls_in, tolls_schema}
