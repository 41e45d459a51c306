-- What the proofs of several functions use.
pub mod Halves
pub mod Saying
