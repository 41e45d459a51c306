pub mod Measured
pub mod Order
