pub mod Insertion
pub mod LeastDeadline
pub mod LentRoom
pub mod Parts
pub mod PlanCalls
pub mod StartCalls
pub mod ValueCases
pub mod WalkCalls
