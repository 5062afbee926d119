pub mod Choosing
pub mod FoundEntries
pub mod GoodParts
pub mod LeastSums
pub mod TightSettings
pub mod WritableLegs
pub mod WritableParts
