pub mod Draws
pub mod Generated
pub mod Layout
pub mod Sizes
