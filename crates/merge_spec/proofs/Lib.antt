pub mod Order
pub mod Tables
pub mod Joining
pub mod AgainstExamples
