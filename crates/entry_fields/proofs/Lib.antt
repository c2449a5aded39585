-- What is proved of typed fields
pub mod Passing
pub mod Finding
