pub mod Held
pub mod Taken
