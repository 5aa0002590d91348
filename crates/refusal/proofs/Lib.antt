pub mod Refusals
pub mod Graphs
