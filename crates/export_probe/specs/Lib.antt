pub mod Set
pub mod Prepared
