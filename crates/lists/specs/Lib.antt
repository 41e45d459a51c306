-- To be read in this order: what a caller must believe. `Inner` has what the functions of the crate promise one another.
pub mod Extent
pub mod Holders
pub mod RmapEdits
pub mod Held
pub mod Release
pub mod Edits
pub mod Raise
pub mod Answer
pub mod Splice
pub mod Steps
pub mod Settled
pub mod Growth
pub mod Inner
