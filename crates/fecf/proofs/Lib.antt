pub mod Xor
pub mod Linear
pub mod Agreement
pub mod Powers
pub mod Folds
pub mod Turns
pub mod Lengths
