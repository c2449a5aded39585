-- Laws of the answers to the operator's command
pub mod Listing
pub mod Unlisting
pub mod Uploading
pub mod UploadWords
