pub mod Faults
pub mod Lengths
pub mod Copies
pub mod Bodies
pub mod Sounds
pub mod Readings
