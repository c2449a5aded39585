-- Laws that the plans carry
pub mod NonEmpty
