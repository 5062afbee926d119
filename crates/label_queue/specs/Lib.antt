pub mod Keys
pub mod Rising
pub mod Inside
