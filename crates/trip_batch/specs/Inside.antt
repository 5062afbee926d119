-- Machinery of the order of jobs, which is no law: the law is in Right (source: own).
pub mod Placing
