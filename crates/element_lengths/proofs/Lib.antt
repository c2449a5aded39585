-- What is proved of skipping elements by their lengths
pub mod Passing
-- What a loop that repeats a step returns
pub mod Repeating
