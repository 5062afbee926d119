pub mod Classes
pub mod Keys
pub mod VehicleModel
pub mod VehicleParts
pub mod Vehicles
