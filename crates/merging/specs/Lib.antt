pub mod Places
pub mod Merges
