pub mod DrawnFiles
pub mod DrawnGraph
pub mod DrawnNetwork
pub mod DrawnRows
