-- What the proofs of requests on other nets share, which is no law (source: own).
pub mod Carrying
