pub mod Texts
pub mod Steps
pub mod Table
pub mod Gathers
pub mod Valid
pub mod Quotes
pub mod Worked
