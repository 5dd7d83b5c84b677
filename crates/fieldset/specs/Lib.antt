pub mod Sets
pub mod Fields
