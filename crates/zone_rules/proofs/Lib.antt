pub mod FirstFaults
pub mod GrowingZones
pub mod LastRows
pub mod SoundZones
