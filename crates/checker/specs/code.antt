-- What the loop over a plan returns
pub mod Segments
