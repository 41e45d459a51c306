pub mod Laws
pub mod Heads
pub mod Meaning
pub mod Stamped
pub mod Later
pub mod Relinked
pub mod Accepted
