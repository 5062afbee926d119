pub mod CheapArcs
pub mod Inside
pub mod ParetoFronts
pub mod Words
