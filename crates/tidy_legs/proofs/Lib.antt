pub mod Tidying
pub mod TurnedLegs
