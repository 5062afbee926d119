-- The names that clauses of this crate cite, passed on from where they are defined (source: own).
pub use Rattle.route_base.specs.Net.{setting_of}
pub use Rattle.route_base.specs.Runs.{any_has, has_minute, AreRuns}
pub use Rattle.route_base.specs.Time.{IsInstant}
pub use Rattle.dimacs_reader.specs.GraphModel.{IsGoodGraph}
pub use Rattle.vehicle_classes.specs.VehicleModel.{VehicleModel}
pub use Rattle.conditional_rules.specs.Decisions.{last_given}
pub use Rattle.covered_minutes.specs.Coverage.{IsWindow}
pub use Rattle.network_tables.specs.Access.{area_at, given_at, is_closed, is_let_in, is_open_by, is_park_open, places_of_key}
pub use Rattle.network_tables.specs.NetworkModel.{NetworkModel, closures_of, park_of}
pub use Rattle.network_tables.specs.Parks.{HasTimetable, IsTimedIn}
pub use Rattle.network_tables.specs.Rules.{has_own_rules}
pub use Rattle.ban_expansion.specs.ArcGroups.{AreGroups, IsArc, IsInGroup}
pub use Rattle.ban_expansion.specs.Bans.{HasThose, IsNetFor, Lays}
pub use Rattle.ban_expansion.specs.Inside.AreaBans.{AreBarred}
pub use Rattle.ban_expansion.specs.Inside.GroupedNets.{AreClosedLists, AreClosedOnce, AreTimed, IsTimedArc, timed_over}
pub use Rattle.ban_expansion.specs.Inside.ShutLists.{AreParks, AreShutLists, park_over}
pub use Rattle.ban_expansion.specs.Inside.Grouping.{AreAlike, AreGrouped, AreShared, HaveSameRules, IsNext}
pub use Rattle.ban_expansion.specs.Inside.Grouping.{begun, begun_shared, has_own, group_joined}
