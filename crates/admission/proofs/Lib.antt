pub mod Passing
pub mod Offering
pub mod Trying
pub mod Adding
pub mod Outcomes
