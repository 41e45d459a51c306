-- What the functions of the crate promise one another: the searches and the splice of an edit of the reverse map, and the passes along the counts.
pub mod Searches
pub mod Splicing
pub mod Passes
pub mod Staying
