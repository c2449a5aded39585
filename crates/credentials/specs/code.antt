-- What the reading of the credentials returns
pub mod Wanted
pub mod Cut
