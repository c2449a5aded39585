-- Laws of an upload
pub mod Laying
pub mod Calling
pub mod Showing
