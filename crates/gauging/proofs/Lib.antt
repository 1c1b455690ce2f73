pub mod AgainstCard
pub mod Capacity
pub mod Search
pub mod Answers
