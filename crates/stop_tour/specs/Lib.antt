pub mod Inside
pub mod StopTable
pub mod TourText
pub mod Tours
pub mod Words
