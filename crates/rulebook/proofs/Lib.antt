pub mod Entered
pub mod Reached
pub mod Answering
