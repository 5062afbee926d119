-- Machinery of the search, which is no law: the law is in Found (source: own).
pub mod Invariants
pub mod Offers
pub mod Measures
pub mod Pairs
pub mod States
pub mod EntrySets
