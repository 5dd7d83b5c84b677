pub mod Turns
pub mod Backs
