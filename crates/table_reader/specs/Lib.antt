pub mod ByNumber
pub mod Inside
pub mod NameIndex
pub mod NameLends
pub mod Records
pub mod Refusals
pub mod Schema
pub mod Words
