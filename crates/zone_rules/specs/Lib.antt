pub mod Zones
