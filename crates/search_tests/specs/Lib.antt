pub mod SmallNets
pub mod WorkedNet
