pub mod Faults
pub mod GraphModel
pub mod Inside
pub mod Lines
pub mod Stated
pub use Rattle.route_base.specs.Digits
pub use Rattle.route_base.specs.Net
