pub mod Limits
pub mod Faults
pub mod Answers
pub mod Contents
pub mod Drafts
pub mod Copies
pub mod Parts
pub mod Laws
