pub mod Tables
pub mod Choices
pub mod Steps
pub mod Laws
