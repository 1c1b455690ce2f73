pub mod Written
pub mod Examples
