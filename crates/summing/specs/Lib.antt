pub mod Sums
pub mod Inner
