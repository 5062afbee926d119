pub mod Begun
pub mod Costs
pub mod Legs
pub mod Words
