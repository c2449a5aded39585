-- Laws of slots
pub mod Comparing
pub mod Putting
pub mod Blocks
pub mod InPlace
pub mod Scanning
