pub mod Stored
pub mod Inner
