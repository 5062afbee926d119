pub mod Closures
pub mod Inside
pub mod Rulings
pub mod Steadiness
