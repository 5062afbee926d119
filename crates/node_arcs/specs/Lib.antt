pub mod Stars
pub mod Inside
