pub mod Fronts
pub mod Walks
pub mod Turns
pub mod Yielded
pub mod Pieces
pub mod Decided
