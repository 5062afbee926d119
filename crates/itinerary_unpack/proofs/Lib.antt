pub mod Sourcing
pub mod Backwards
