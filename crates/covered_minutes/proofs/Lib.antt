pub mod Algebra
pub mod Changes
pub mod CoverTest
pub mod CoveringDays
