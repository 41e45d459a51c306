-- In reading order: what an edit of both lists leaves and comes to, the two edits, what their calls answer, the theorem about histories, and the
-- calls that make one. `Inner` is what private functions promise each other: no other crate names it.
pub mod Joint
pub mod LetGo
pub mod TakeHeld
pub mod Answer
pub mod History
pub mod Calls
pub mod Room
pub mod Inner
