pub mod Letters
pub mod Fields
pub mod Lines
pub mod Row
pub mod Answers
