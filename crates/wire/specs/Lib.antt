-- What a reader must believe of fields and formats, in the order to read it
pub mod Bytes
pub mod Numbers
pub mod Format
pub mod Parsers
pub mod Sequence
pub mod Fields
pub mod Series
pub mod Whole
pub mod Orders
-- proved: the laws that the formats carry
pub mod laws
-- what the code answers; no claim rests on it
pub mod code
