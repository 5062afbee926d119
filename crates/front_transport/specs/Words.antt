-- The words of the crate's clauses, from its own specs and from the crates below (source: own).
pub use Rattle.route_base.specs.Setting.{Setting}
pub use Rattle.route_base.specs.Front.{IsFront, IsNoWorse, IsAchieved}
pub use Rattle.front_transport.specs.ParetoFronts.{IsParetoFront, ArrivesBefore}
