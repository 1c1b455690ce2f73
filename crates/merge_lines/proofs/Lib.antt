pub mod Bytes
pub mod Known
