pub mod Lockers
pub mod Nets
pub mod Words
