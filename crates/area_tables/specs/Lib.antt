pub mod AreaPlaces
pub mod Areas
pub mod Holidays
pub mod Inside
pub mod Roads
pub mod Words
pub mod Zones
