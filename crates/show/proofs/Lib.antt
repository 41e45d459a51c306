-- In reading order.
pub mod Storing
