pub mod Raising
pub mod Topping
