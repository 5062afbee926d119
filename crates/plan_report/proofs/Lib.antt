pub mod Agreeing
pub mod FewLegs
pub mod Going
pub mod Items
