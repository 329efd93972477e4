pub mod Laying
pub mod Lookups
