pub mod Order
pub mod Writes
pub mod Lists
