pub mod Grades
pub mod Inner
pub mod Answers
