mod Terms
pub mod Tops
