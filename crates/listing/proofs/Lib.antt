pub mod Run
pub mod Read
