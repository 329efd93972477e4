pub mod Finds
pub mod Reads
