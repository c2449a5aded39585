-- What a store answers, and the blank credentials as the code writes them
pub mod Stores
pub mod Closing
