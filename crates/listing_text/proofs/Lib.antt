pub mod Laws
pub mod Turns
pub mod Patterns
pub mod Lines
