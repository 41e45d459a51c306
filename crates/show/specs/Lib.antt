-- In reading order.
pub mod Places
pub mod Samples
pub mod Images
