-- The first character that is not printable
pub mod Characters
