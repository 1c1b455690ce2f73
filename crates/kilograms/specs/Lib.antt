pub mod Steps
pub mod Exact
pub mod Distance
pub mod Uncut
pub mod Inner
