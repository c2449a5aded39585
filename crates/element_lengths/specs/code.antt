-- What the functions that skip elements by their lengths are measured against
pub mod Lengths
