pub mod Writing
pub mod Orders
pub mod Chunks
pub mod Sinking
pub mod Listing
