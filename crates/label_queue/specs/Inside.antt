-- Machinery of the queues, which is no law: the law is in Keys (source: own).
pub mod Heaps
pub mod Rings
