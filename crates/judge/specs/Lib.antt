pub mod Judging
pub mod Sights
