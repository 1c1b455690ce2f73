pub mod Alone
pub mod Writing
pub mod RoundTrip
