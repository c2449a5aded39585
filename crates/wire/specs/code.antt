-- What functions below the public calls answer
pub mod Order
pub mod Answer
