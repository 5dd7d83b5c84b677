pub mod Limits
pub mod Fields
pub mod Messages
pub mod Parts
pub mod Laws
