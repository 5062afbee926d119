pub mod Tidiness
pub mod Words
