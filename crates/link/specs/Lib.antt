-- Demand 3, as a statement about the rules: two ends and the link between them, what is due, and the demand.
pub mod Link
pub mod Due
pub mod Demand
pub mod Corollaries
pub mod Examples
