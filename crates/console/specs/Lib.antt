pub mod Progress
pub mod Shown
