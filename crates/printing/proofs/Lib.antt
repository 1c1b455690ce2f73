pub mod Appending
pub mod Laid
pub mod Totals
