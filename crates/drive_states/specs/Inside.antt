-- What the search for states keeps, which is no law (source: own).
pub mod BitRows
pub mod Numbering
pub mod StateMarks
pub mod StateSearch
