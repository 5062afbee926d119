-- Machinery of the sweeps, which is no law: the law of their results is in Least, Moves, Waits and Pruning (source: own).
pub mod CarriedWaits
pub mod EndRanges
pub mod NextWaits
pub mod Prefixes
pub mod Segments
pub mod Suffixes
