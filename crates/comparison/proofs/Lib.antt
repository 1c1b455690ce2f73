pub mod AgainstCard
pub mod Sides
pub mod Signed
pub mod Ranges
pub mod Told
pub mod Turned
pub mod Exchange
