pub mod Marks
pub mod Passes
pub mod Held
