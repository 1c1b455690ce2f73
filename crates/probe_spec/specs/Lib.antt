pub mod Tenths
pub mod Nearest
pub mod ProbeCard
pub mod Inner
