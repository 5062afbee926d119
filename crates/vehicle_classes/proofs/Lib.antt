mod Fields
mod Named
pub mod VehicleRows
mod CopiedWords
