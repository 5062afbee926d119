pub mod Accesses
pub mod Cutting
pub mod Comparisons
pub mod Conditions
pub mod CanonicalText
pub mod Inside
pub mod Decisions
pub mod Reading
