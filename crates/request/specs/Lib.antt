pub mod Faults
pub mod Askings
pub mod Readings
pub mod Laws
pub mod Scans
