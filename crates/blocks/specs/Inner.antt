-- What private functions promise one another.
pub mod CheckParts
