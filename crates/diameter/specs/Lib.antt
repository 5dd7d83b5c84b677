pub mod Bytes
pub mod Headers
pub mod Avps
pub mod Spans
pub mod Lists
pub mod Views
pub mod Soundness
pub mod Laws
