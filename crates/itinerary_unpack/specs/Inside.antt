-- Machinery of the reconstruction, which is no law: the law is in route_base (source: own).
pub mod Sources
pub mod Requests
pub mod Ways
