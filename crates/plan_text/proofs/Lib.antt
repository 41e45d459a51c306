pub mod LineLaws
pub mod TextLaws
pub mod LongLines
