pub mod Inside
pub mod StateSize
pub mod Words
