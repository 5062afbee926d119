-- Machinery of the reader, which is no law (source: own).
pub mod Builder
pub mod PlainLines
