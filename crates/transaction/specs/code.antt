-- What the readers of a transaction return
pub mod Answer
