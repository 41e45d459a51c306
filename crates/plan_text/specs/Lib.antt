-- In reading order: the line that the program reads, and what it prints.
pub mod Line
pub mod Text
