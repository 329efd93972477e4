pub mod Remainders
pub mod Folds
