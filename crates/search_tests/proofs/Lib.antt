pub mod CheapNets
pub mod WorkedNet
