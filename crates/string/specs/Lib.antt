-- Strings: a length, then that many bytes
pub mod Characters
pub mod Strings
-- proved: laws that the definitions carry
pub mod laws
