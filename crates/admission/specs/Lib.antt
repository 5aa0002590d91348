pub mod Marks
pub mod Offers
pub mod Adds
