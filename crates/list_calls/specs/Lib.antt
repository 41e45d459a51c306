-- What the calls on lists and on sheets say and leave; what an explanation says, and that the letting go does so; with which room no edit answers 26; and
-- that a sheet reads back.
pub mod ListCalls
pub mod ExplainFigures
pub mod Explained
pub mod Room
pub mod ReadBack
