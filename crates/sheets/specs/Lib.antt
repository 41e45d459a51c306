-- In reading order: where things lie, changes, the sheet of a list of them and what is asked of one, what is claimed, and what the calls answer and leave.
pub mod Layout
pub mod Change
pub mod Sheet
pub mod Claims
pub mod Answer
pub mod Inner
