-- Laws that the formats carry
pub mod Bytes
pub mod Format
pub mod Blob
pub mod Sequence
pub mod Items
pub mod Sizes
