pub mod Members
pub mod Unions
pub mod Named
pub mod Taken
pub mod Lacks
