pub mod Inside
pub mod RestedTours
pub mod Words
