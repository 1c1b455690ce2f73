pub mod Table
pub mod TablesCard
pub mod Arrays
pub mod Rising
