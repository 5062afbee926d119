-- Machinery of the search, which is no law (source: own).
pub mod Charges
pub mod Surpassing
pub mod Tasks
pub mod Ways
pub mod Steps
pub mod Sources
