pub mod LoadedFiles
pub mod ReadFiles
pub mod Written
