-- The words of the crate's clauses, from its own specs and from the crates below (source: own).
pub use Rattle.route_base.specs.Net.{at_number, setting_of}
pub use Rattle.node_arcs.specs.Stars.{EndsAt, AreOutgoing, arcs_of}
pub use Rattle.drive_states.specs.StateSize.{HasTooManyStates}
pub use Rattle.drive_states.specs.Inside.BitRows.{TakesFresh, TakesLater, IsTrimmed, bit_of, later_bit, row_of, sum_below}
pub use Rattle.drive_states.specs.Inside.Numbering.{number_at, HasPlace, IsNumberSet}
pub use Rattle.drive_states.specs.Inside.StateSearch.{Grows, Reaches, TakesLeg, OverflowsAt, IsExploring, IsExplored, IsStart, drives_over}
pub use Rattle.drive_states.specs.Inside.StateMarks.{IsMarked, IsVisiting, AreQueued, IsOpened, TakesMarks, IsVisited, IsPaid, AreAllMarked}
pub use Rattle.drive_states.specs.Inside.StateMarks.{drives_by, drives_in, rests_by, rests_in}
