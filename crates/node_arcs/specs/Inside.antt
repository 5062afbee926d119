-- Machinery of the lists, which is no law: the law is in Stars (source: own).
pub mod Counts
pub mod Places
