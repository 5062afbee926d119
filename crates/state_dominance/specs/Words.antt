-- The words of the crate's clauses (source: own).
pub use Rattle.propagation.specs.Inside.Invariants.{Progress, no_part, point}
pub use Rattle.state_dominance.specs.Inside.Dominance.{Task, IsSimulation, AreBoundsAlong, IsSearching, IsResting, IsAchievedIn, IsRelaxedIn, IsDominated, DrivesRelaxed}
pub use Rattle.state_dominance.specs.Inside.Taking.{TakesOffer, TakesPart, IsOffer, IsWide, IsNarrowed, IsFirstOffer}
pub use Rattle.front_transport.specs.ParetoFronts.{IsParetoFront, ArrivesBefore}
pub use Rattle.route_base.specs.Front.{IsNoWorse}
pub use Rattle.state_dominance.specs.Inside.NextStops.{AreReducedSums, IsOutdone}
pub use Rattle.state_dominance.specs.Inside.Product.{Ruler, IsSimulating, IsFitting, IsStaged, HasBest, IsBase, AreLatest, AreRuledBounds, task_by_latest, task_over}
