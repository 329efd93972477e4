pub mod Rounds
pub mod Sources
