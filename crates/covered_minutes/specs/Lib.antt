pub mod Coverage
pub mod LocalDays
