-- What every call of an upload guarantees, and whole uploads
pub mod Answers
pub mod Pieces
