-- What the proofs of several functions use.
pub mod Reporting
pub mod TreeCalls
pub mod LookupSaid
pub mod TextbookSaid
