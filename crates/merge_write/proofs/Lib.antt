pub mod CarTurns
pub mod TableTurns
