pub mod DayNumbers
pub mod Pieces
pub mod WeekdayNumbers
pub mod DigitForms
pub mod TextForms
pub mod MinuteForms
pub mod InstantForms
