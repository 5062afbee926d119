-- What the net over states keeps, which is no law (source: own).
pub mod StateNet
pub mod Unpacking
pub mod WithinRule
