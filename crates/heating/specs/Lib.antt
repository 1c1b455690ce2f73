pub mod Limits
pub mod Steps
pub mod Exact
pub mod Uncut
pub mod Inner
pub mod Answers
