pub mod Table
pub mod TablesCard
pub mod Layout
pub mod Inner
