pub mod Capacity
pub mod Exact
pub mod Inner
