-- The mirrored net, which is no law (source: own).
pub mod Mirror
