pub mod Growing
pub mod ListPlaces
pub mod NetParts
pub mod OneFront
pub mod PairOrder
pub mod Places
pub mod SameFronts
pub mod Transport
