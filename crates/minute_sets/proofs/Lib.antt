pub mod AddedRuns
pub mod FreeMinutes
pub mod HeadRuns
pub mod MergedRuns
pub mod OneList
pub mod RunSuffixes
pub mod SplitRuns
pub mod WidenedRuns
