pub mod Rows
pub mod Turns
