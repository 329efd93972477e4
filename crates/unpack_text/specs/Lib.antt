pub mod Totals
pub mod Lines
