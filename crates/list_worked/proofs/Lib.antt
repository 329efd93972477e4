pub mod Texts
pub mod Carried
