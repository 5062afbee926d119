-- Machinery, which is no law: the law is IsGood of the checker, IsTight, and IsWritable of the format (source: own).
pub mod Entries
