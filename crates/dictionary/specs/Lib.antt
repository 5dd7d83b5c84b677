pub mod Numbers
pub mod Addresses
pub mod Names
pub mod Forms
pub mod Laws
