pub mod Far
pub mod Tops
