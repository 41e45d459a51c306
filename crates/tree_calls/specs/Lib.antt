-- In reading order: what the calls on blocks, plans and builds say and leave, then those on walks, that the textbook walk says what the walk does, then the
-- lookup, then that on two lists.
pub mod TreeCalls
pub mod WalkFigures
pub mod Textbook
pub mod LookupFigures
pub mod SameFigures
