-- The textbook walk, and that it is the walk over a stack. `Inner` is what the functions of this crate promise one another: no other crate names it.
pub mod Textbook
pub mod Inner
