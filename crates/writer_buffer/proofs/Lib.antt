-- Laws of the buffer
pub mod Stores
pub mod Numbering
pub mod Blanks
pub mod Loops
pub mod Ending
