-- Laws that the callers' proofs cite.
pub mod Files
