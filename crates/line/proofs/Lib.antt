pub mod Alone
pub mod Bytes
pub mod RoundTrip
pub mod Examples
