pub mod Texts
pub mod Table
pub mod Facts
pub mod Places
pub mod Quotes
pub mod Parts
