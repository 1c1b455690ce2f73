pub mod Card
pub mod OperationsCard
pub mod ExactCard
pub mod ProbedCard
pub mod Accepted
pub mod Masses
pub mod Answers
