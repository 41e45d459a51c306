-- In reading order: the lookup as a descent that skips children, what a call says and leaves, and what is claimed of every lookup. `Inner` is what the
-- functions of this crate promise one another: no other crate names it.
pub mod Lookup
pub mod Answer
pub mod Claims
pub mod Inner
