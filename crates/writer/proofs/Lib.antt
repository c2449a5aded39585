-- Laws of the writer's steps
pub mod Laws
pub mod Entering
pub mod Settling
pub mod Fitting
pub mod Naming
pub mod Methods
