-- The answers to the operator's command
pub mod Listing
pub mod Uploads
