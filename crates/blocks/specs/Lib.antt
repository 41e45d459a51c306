-- In reading order. `Inner` is what the functions of this crate promise one another: no other crate names it.
pub mod Geometry
pub mod Offsets
pub mod Tree
pub mod Refusal
pub mod Check
pub mod Stamp
pub mod Inner
