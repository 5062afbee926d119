-- Machinery of the search, which is no law: the law is on the trait FrontSearch (source: own).
pub mod CostTable
pub mod Costs
pub mod Predecessors
pub mod Routes
pub mod Soundness
