pub mod Arrays
pub mod Room
