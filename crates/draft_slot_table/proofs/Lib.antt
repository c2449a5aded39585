-- Laws of the rows of slots, and of the code that lists them
pub mod Rows
pub mod Scanning
pub mod Accepted
pub mod Listing
