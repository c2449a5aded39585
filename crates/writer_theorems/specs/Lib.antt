-- Runs of the writer's steps and of calls of its methods, and what is claimed of them
pub mod Runs
pub mod Claims
pub mod Calls
pub mod Occurring
