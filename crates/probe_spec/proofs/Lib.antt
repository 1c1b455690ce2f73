pub mod Comparing
pub mod Answers
pub mod Nearest
pub mod Cutting
pub mod Bits
pub mod AgainstCard
