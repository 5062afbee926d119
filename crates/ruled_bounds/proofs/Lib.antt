pub mod Bounding
pub mod Goods
pub mod Reduced
