pub mod Inside
pub mod Values
pub mod Words
