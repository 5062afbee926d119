pub mod FirstRuns
pub mod KeyPlaces
pub mod RulingAccess
pub mod ShownWalls
pub mod SteadyClauses
pub mod SteadyHours
pub mod SteadyRulings
