pub mod Combination
pub mod Entries
