pub mod Laid
pub mod Verdicts
pub mod Passing
pub mod Firsts
