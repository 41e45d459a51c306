pub mod Numbers
pub mod Tally
pub mod Descent
