pub mod Terms
pub mod Limit
pub mod Permitted
pub mod Shown
pub mod Card
pub mod ProbedCard
pub mod Inner
