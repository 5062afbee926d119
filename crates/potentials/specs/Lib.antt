pub mod Proportion
pub mod Sums
pub mod Inside
