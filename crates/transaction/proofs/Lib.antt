-- What is proved of a signed transaction
pub mod Slots
pub mod CredentialLaws
pub mod Reading
pub mod Checking
pub mod Signed
pub mod Codec
pub mod FirstBroken
pub mod Verdicts
pub mod Good
pub mod Writing
pub mod Accepted
pub mod Refusing
