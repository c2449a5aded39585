-- The laws that proofs cite, here and in the crates above
pub mod Bytes
pub mod Numbers
pub mod Format
pub mod Whole
pub mod Orders
pub mod Trying
pub mod Reading
pub mod Passing
pub mod Refusing
