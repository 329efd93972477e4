-- Laws that the functions' proofs cite.
pub mod Words
pub mod LaneNames
pub mod Without
