-- What the readers of elements return
pub mod Answer
