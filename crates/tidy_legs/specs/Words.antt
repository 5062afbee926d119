-- The words of the crate's clauses, from its own specs and from the crates below (source: own).
pub use Rattle.route_base.specs.Legs.{steps_of, steps_of_leg}
pub use Rattle.tidy_legs.specs.Tidiness.{IsTidy, HasRoom}
