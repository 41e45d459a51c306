-- In reading order: a walk over any way to look at a block, the look at a block of a group, what a call comes to and leaves, that it is the same on a larger
-- stack and under a higher sequence number, whether every level is linked, what a walk means, what is asked first, the blocks that are due as nine pairs, one
-- visit, and a walk under way. The last four are what the steps of a walk promise, which crates above take too. `Inner` is what the functions of this crate
-- promise one another: no other crate names it.
pub mod Memory
pub mod Walk
pub mod Shapes
pub mod WalkCall
pub mod WalkAnswer
pub mod LargerStack
pub mod Later
pub mod Links
pub mod Forest
pub mod First
pub mod Path
pub mod OneVisit
pub mod Underway
pub mod Inner
