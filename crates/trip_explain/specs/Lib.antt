pub mod Reasons
pub mod Explanations
pub mod Dominators
pub mod Inside
pub mod ExplanationText
pub mod ItineraryFile
