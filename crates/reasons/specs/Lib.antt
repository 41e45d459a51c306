-- In reading order: what decides, what the calls answer, and what is claimed of the answers. `Inner` has what private functions promise each other.
pub mod Why
pub mod Answer
pub mod Claims
pub mod Inner
