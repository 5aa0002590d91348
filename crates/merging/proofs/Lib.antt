pub mod Comparing
pub mod Mapping
pub mod Taking
pub mod Merging
pub mod Outcomes
