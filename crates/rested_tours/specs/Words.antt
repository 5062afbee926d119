-- The words of the crate's clauses, from its own specs and from the crates below (source: own).
pub use Rattle.route_base.specs.Net.{Net, at_number, setting_of, IsGoodNet, IsGoodRequest}
pub use Rattle.route_base.specs.Setting.{Setting}
pub use Rattle.front_transport.specs.CheapArcs.{HasCheapArcs}
pub use Rattle.drive_states.specs.StateSize.{HasTooManyStates}
pub use Rattle.drive_breaks.specs.Rested.{IsGoodRule, IsRestedFront, AchievesRested, AreRightRested}
pub use Rattle.drive_breaks.specs.RestedOrder.{IsFirstRested}
pub use Rattle.stop_tour.specs.Tours.{IsGoodStop, AreRightTours}
pub use Rattle.rested_tours.specs.RestedTours.{IsRestedTourFront, AchievesRestedTour, AreRightRestedTours, IsFirstRestedTour}
pub use Rattle.rested_tours.specs.Inside.TourRuler.{stop_service, tour_ruler}
pub use Rattle.rested_tours.specs.Inside.TidyTours.{IsTidyTour, HasTourRoom}
pub use Rattle.rested_tours.specs.Inside.ToldLegs.{AreTellable, AreTourLegs, IsLegNumbered, IsServiceNumbered, IsNoService, IsTripOf, as_tour_leg, told_by}
pub use Rattle.rested_tours.specs.Inside.ToldRoutes.{IsTellableRoute, IsToldBy}
