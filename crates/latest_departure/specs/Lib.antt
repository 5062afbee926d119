pub mod Inside
pub mod LateFront
pub mod LateText
pub mod Words
