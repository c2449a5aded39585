-- The slots as the code finds them
pub mod Scan
