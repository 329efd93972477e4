-- Laws that the functions' proofs cite.
pub mod Batches
pub mod Zones
