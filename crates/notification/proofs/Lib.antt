pub mod Lengths
pub mod Bodies
