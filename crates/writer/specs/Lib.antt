pub mod Stores
pub mod Bytes
pub mod Avps
pub mod Headers
pub mod Parts
pub mod Laws
