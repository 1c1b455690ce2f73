pub mod Nearest
pub mod Answers
pub mod Told
pub mod Inner
pub mod Card
