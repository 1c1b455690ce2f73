pub mod Difference
pub mod Answers
pub mod Told
pub mod Exchange
pub mod Card
