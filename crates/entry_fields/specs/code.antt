-- The typed fields of elements, found by their offsets
pub mod Found
