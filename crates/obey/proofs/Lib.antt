pub mod Desks
pub mod Obeyed
pub mod Places
