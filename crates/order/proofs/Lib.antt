pub mod Mixing
pub mod Heaps
pub mod Sorting
pub mod Ordered
