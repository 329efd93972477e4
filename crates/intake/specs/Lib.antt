pub mod Windows
pub mod Sources
