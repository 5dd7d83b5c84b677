pub mod Stores
pub mod Numbers
pub mod Avps
pub mod Written
