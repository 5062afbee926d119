-- The words of the crate's clauses, from its own specs and from the crates below (source: own).
pub use Rattle.route_base.specs.Front.{IsFront}
pub use Rattle.route_base.specs.Matching.{IsInWindow, StandsFor}
pub use Rattle.route_base.specs.Net.{IsGoodNet, IsGoodRequest, Net, setting_of}
pub use Rattle.route_base.specs.Setting.{Setting}
pub use Rattle.table_reader.specs.Words.{fields_of, records_of, rows_of, ReadsRows, first_table_fault}
pub use Rattle.front_transport.specs.CheapArcs.{HasCheapArcs}
pub use Rattle.stop_tour.specs.Tours.{AreRightTours, IsStopAmong, IsGoodStop, IsTourFront, tour_size_in, tour_size_of}
pub use Rattle.stop_tour.specs.StopTable.{service_of, stop_of, stops_schema, stops_in}
pub use Rattle.stop_tour.specs.TourText.{tour_leg_text, tour_route_text, tour_text_of}
pub use Rattle.stop_tour.specs.Inside.LayerBounds.{sum_of, bound_in, ahead_of, bounds_of, AreLayers, IsLastLayer, IsLayerBefore, AreTourBounds}
pub use Rattle.stop_tour.specs.Inside.Layers.{lifted, layered, copies, services, outside, closed_from, runs_and_rest, last_minute, layered_lists, tour_net}
pub use Rattle.stop_tour.specs.Inside.Unlayering.{leg_over, route_over, IsNumbered}
