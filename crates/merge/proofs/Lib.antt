pub mod Standing
pub mod Copied
pub mod Fitting
pub mod Whole
pub mod Answers
