-- Laws of the answers to the phone program
pub mod Packing
pub mod Unpacking
