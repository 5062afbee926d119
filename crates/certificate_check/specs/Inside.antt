-- Machinery of the check, which is no law: the law is in Conditions and Verdicts (source: own).
pub mod Passing
pub mod Reduction
pub mod Steps
