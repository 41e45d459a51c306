pub mod LevelPlans
pub mod BuildSteps
pub mod BuildNeeds
