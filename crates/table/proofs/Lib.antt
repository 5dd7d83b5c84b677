pub mod Keys
pub mod Places
pub mod Maps
pub mod Lawful
pub mod Sweeps
pub mod Each
