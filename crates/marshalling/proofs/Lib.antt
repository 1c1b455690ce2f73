pub mod Copying
pub mod Handed
pub mod Lengths
pub mod Examples
