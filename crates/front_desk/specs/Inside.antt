-- Facts that only the proofs need: no law (source: own).
pub mod Grouping
pub mod Ending
pub mod Planning
pub mod Judging
pub mod Late
pub mod Sharing
pub mod Sound
