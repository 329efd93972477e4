pub mod Fits
pub mod Lookups
