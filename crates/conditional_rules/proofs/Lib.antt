pub mod Runs
pub mod ReadComparisons
pub mod OnePart
mod Clauses
mod ComputedClauses
mod CutLists
mod FirstAt
mod Parentheses
pub mod Over
pub mod Tight
pub mod TightHours
pub mod PrintedNumbers
pub mod PrintedComparisons
pub mod ComparisonBytes
pub mod PartsAgain
pub mod Joined
pub mod CanonicalReading
pub mod OneReading
pub mod LastGiven
pub mod LastPlace
