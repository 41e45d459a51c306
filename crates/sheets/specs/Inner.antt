-- What the functions of the crate promise one another: no other crate names it.
pub mod Passes
