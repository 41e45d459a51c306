pub mod WalkState
pub mod Chains
