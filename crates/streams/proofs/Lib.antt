-- Laws that the functions' proofs cite, and what a batch so gathered keeps.
pub mod Streams
pub mod Turns
pub mod Kept
pub mod Windows
