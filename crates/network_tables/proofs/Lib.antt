pub mod ArcRules
pub mod AreaLists
pub mod ArcPlaces
pub mod AreaRows
pub mod ClosureCounts
pub mod ClosureRows
pub mod ClosureWrites
pub mod FirstFaults
pub mod FileFaults
pub mod HeldLists
mod JobOfRow
mod JobRows
pub mod NetLists
pub mod ParkNodes
pub mod RatedRows
pub mod RoadRows
pub mod RowLimits
pub mod RuleRows
pub mod SamePlaces
mod Rows
mod WorkedJobs
pub mod SmallWeights
pub mod ParkLists
