-- Everything that is claimed: the file Claims, over the others
pub mod Cases
pub mod Instance
pub mod Answers
pub mod Lengths
pub mod Occurring
pub mod RoundTrip
pub mod Claims
