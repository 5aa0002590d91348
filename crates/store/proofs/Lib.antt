pub mod Ops
pub mod Cut
pub mod Unique
pub mod Tests
pub mod Writing
pub mod Slots
