-- Laws of runs
pub mod Keeping
pub mod Finishing
pub mod Filling
pub mod Spelling
pub mod Trip
pub mod Owing
pub mod Theorems
pub mod Calling
pub mod Numbering
pub mod Occurring
