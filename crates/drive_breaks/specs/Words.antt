-- The words of the crate's clauses, from its own specs and from the crates below (source: own).
pub use Rattle.route_base.specs.Net.{at_number, park_at, setting_of, IsGoodNet, IsGoodRequest}
pub use Rattle.route_base.specs.Legs.{steps_of, steps_of_leg}
pub use Rattle.node_arcs.specs.Stars.{EndsAt, AreOutgoing, arcs_of}
pub use Rattle.front_transport.specs.CheapArcs.{HasCheapArcs}
pub use Rattle.tidy_legs.specs.Tidiness.{IsTidy}
pub use Rattle.drive_breaks.specs.Rested.{IsGoodRule, AreRightRested}
pub use Rattle.drive_states.specs.StateSize.{HasTooManyStates}
pub use Rattle.drive_breaks.specs.Inside.StateNet.{IsArcFor, Arrives, AreBuilt, AddsWay, net_over}
pub use Rattle.drive_states.specs.Inside.StateSearch.{IsSoundWay, IsExplored}
pub use Rattle.drive_breaks.specs.Inside.Unpacking.{unpacked, IsSourced, IsSourcedRoute, IsUnpackedRoute, AreUnpacked}
pub use Rattle.drive_breaks.specs.Inside.Unpacking.{stay_at}
