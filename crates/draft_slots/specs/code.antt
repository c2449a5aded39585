-- How the code finds slots, compares and joins them
pub mod Scan
