pub mod Writes
pub mod Slots
pub mod Cuts
pub mod Filled
