pub mod ArcGroups
pub mod Bans
pub mod Circumstances
pub mod Inside
pub mod Layers
pub mod Words
