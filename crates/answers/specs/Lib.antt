pub mod Listing
pub mod Reconciled
pub mod Paper
