pub mod Faults
pub mod Files
pub mod ReadingOrder
pub mod Words
pub mod Writing
