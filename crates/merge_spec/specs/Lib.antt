pub mod Reply
pub mod Order
pub mod Held
pub mod Merge
pub mod Merged
pub mod Inner
pub mod Examples
