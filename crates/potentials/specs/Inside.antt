-- Machinery of the search, which is no law: the law is in Sums (source: own).
pub mod Caps
pub mod Summing
pub mod Totals
