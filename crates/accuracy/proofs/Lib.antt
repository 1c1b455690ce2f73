pub mod Limit
pub mod Answers
pub mod AgainstCard
pub mod AgainstProbedCard
pub mod Shown
pub mod Bounds
pub mod Parts
