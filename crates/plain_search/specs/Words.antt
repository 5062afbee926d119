-- The words of the crate's clauses, from its own specs and from the crates below (source: own).
pub use Rattle.route_base.specs.Itinerary.{Step, drive, wait, Drives, Waits, Walks}
pub use Rattle.route_base.specs.Legs.{steps_of, steps_of_leg, start_of}
pub use Rattle.route_base.specs.Net.{IsGoodNet, setting_of}
pub use Rattle.route_base.specs.Front.{IsRight}
pub use Rattle.route_base.specs.FirstItinerary.{IsFirst}
pub use Rattle.route_base.specs.StepsBack.{IsFirstLeg}
pub use Rattle.node_arcs.specs.Stars.{EndsAt}
pub use Rattle.plain_search.specs.Inside.CostTable.{cost_of}
pub use Rattle.plain_search.specs.Inside.Costs.{none, at, value_of, IsKnownCost, ChangesLater, IsRelaxedFrom, IsRelaxedBefore}
pub use Rattle.plain_search.specs.Inside.Predecessors.{LeadsTo, IsSingle}
pub use Rattle.plain_search.specs.Inside.Routes.{IsRouteAt}
pub use Rattle.plain_search.specs.Inside.Soundness.{IsAsked, IsSoundTable, IsFinalTable, HasSoundLabel, IsNode, IsMinute}
pub use Rattle.tidy_legs.specs.Tidiness.{IsTidy}
