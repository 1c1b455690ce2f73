pub mod Text
pub mod Grammar
pub mod Faults
pub mod Sheet
pub mod Proper
pub mod ByGrammar
pub mod Inner
