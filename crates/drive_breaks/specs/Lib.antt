pub mod Inside
pub mod Rested
pub mod RestedOrder
pub mod Words
