pub mod Found
pub mod Inside
