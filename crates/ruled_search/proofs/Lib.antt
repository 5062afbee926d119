mod Made
mod Making
mod Moving
mod Starting
mod TakenOffers
mod Growing
mod Covered
mod Offering
mod Closing
mod Placed
mod Shapes
mod Widened
mod Improving
pub mod Relaxed
pub mod Reshaped
pub mod Work
pub mod Leaving
pub mod Bounding
pub mod Cheap
pub mod Beginning
pub mod Planned
pub mod Turning
pub mod Backward
pub mod Arriving
pub mod Tried
pub mod Numbering
pub mod Sourcing
pub mod Ends
pub mod StepOrder
pub mod FirstSteps
pub mod Best
pub mod FirstLegs
pub mod EarlierArcs
pub mod Charging
pub mod LeftBelow
pub mod Outdone
