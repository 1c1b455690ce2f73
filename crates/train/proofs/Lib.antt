pub mod Entered
pub mod ProbeSet
pub mod Summed
