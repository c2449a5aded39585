-- What the functions that the methods call answer
pub mod Answer
