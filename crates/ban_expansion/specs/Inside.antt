pub mod AreaBans
pub mod GroupedNets
pub mod Grouping
pub mod ShutLists
