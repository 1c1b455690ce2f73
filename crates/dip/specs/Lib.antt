pub mod Level
pub mod Redip
pub mod Tenths
pub mod Tape
pub mod Formula
