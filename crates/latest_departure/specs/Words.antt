-- The words of the crate's clauses, from its own specs and from the crates below (source: own).
pub use Rattle.route_base.specs.Net.{IsGoodRequest, setting_of}
pub use Rattle.front_transport.specs.CheapArcs.{HasCheapArcs}
pub use Rattle.latest_departure.specs.LateFront.{AreRightLate}
pub use Rattle.latest_departure.specs.LateText.{late_route_text, late_text_of}
pub use Rattle.latest_departure.specs.Inside.Mirror.{mirrored_runs, mirrored_lists_of, turned, free_park, mirrored, after_gate, free_to_in}
pub use Rattle.latest_departure.specs.Inside.Mirror.{own_legs_of, late_of}
