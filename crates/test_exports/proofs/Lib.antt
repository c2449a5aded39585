-- Laws of the answers to a test
pub mod Encoding
pub mod Putting
pub mod Turns
