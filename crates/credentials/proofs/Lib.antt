-- What is proved of the credentials that are wanted
pub mod Asked
pub mod Ahead
pub mod Besides
pub mod Signatures
