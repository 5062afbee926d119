-- The rulers of tours, and how legs over their states are told, which is no law (source: own).
pub mod PlainTours
pub mod TidyTours
pub mod ToldLegs
pub mod ToldRoutes
pub mod TourRuler
