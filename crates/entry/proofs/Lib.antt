-- What is proved of entry n
pub mod Standing
pub mod Entering
