pub mod Words
pub mod Asked
pub mod PackWords
pub mod Plans
pub mod Programs
pub mod Starts
pub mod UnpackWords
