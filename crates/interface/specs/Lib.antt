-- What the calls of the C interface are given, and what they say.
pub mod Interface
