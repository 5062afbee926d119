pub mod AreaRows
pub mod DatedRows
pub mod DayLists
mod WorkedAreas
mod WorkedZones
pub mod ZoneRows
