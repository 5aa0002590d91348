pub mod Layout
pub mod Sound
pub mod Checked
pub mod Answers
pub mod Writes
pub mod Slots
pub mod Capacities
pub mod Graphs
