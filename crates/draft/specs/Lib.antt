-- Drafts and the calls over them
pub mod Reader
pub mod Calls
pub mod Packing
