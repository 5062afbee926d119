pub mod Routes
pub mod Inside
