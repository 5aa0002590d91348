pub mod Painting
pub mod Passes
pub mod Places
pub mod Told
pub mod Held
