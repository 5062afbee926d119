pub mod ArcEnds
pub mod Counting
pub mod Placing
pub mod Writing
pub mod DriveEnds
pub mod StarPlaces
