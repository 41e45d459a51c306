-- In reading order. `Inner` is what the functions of this crate promise one another: no other crate names it.
pub mod Free
pub mod Same
pub mod Claims
pub mod Inner
