pub mod Cuts
pub mod PlainArcs
pub mod ReadSoFar
pub mod Rows
pub mod Says
pub mod Tokens
