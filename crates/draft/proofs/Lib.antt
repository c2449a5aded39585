-- Laws that the proofs of fill and merge use
pub mod Scanned
pub mod Known
pub mod Calling
pub mod Packing
