pub mod Readings
pub mod Spelling
pub mod Laws
