pub mod Slice
pub mod Examples
pub mod Lengths
