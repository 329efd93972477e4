pub mod Rows
pub mod States
