pub mod Measured
pub mod Exact
pub mod Car
pub mod Card
pub mod OperationsCard
pub mod ExactCard
pub mod ProbedCard
pub mod Inner
