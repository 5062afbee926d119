pub mod Inside
pub mod NoRule
pub mod OneRule
pub mod Words
pub mod Serving
