-- In reading order.
pub mod Bytes
pub mod Question
pub mod Output
pub mod Told
pub mod Records
pub mod Accepted
pub mod Rmaps
pub mod Refcounts
pub mod ListRefusal
pub mod Crc
pub mod Polynomial
pub mod Words
