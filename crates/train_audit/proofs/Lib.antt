pub mod Same
pub mod Making
pub mod Made
