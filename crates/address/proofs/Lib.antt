pub mod Spelt
pub mod Sizes
