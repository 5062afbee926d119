-- The words of the crate's clauses, from its own specs and from the crates below (source: own).
pub use Rattle.route_base.specs.Front.{IsRight, pairs_of}
pub use Rattle.route_base.specs.Net.{setting_of}
pub use Rattle.node_arcs.specs.Stars.{AreIncoming}
pub use Rattle.itinerary_unpack.specs.Answered.{AreUnpacked, IsAnswered}
