-- What labels and the table of states keep, which is no law (source: own).
pub mod Codes
pub mod Cuts
pub mod Labels
pub mod Latest
pub mod Reduced
pub mod Services
pub mod Tables
pub mod Tiring
