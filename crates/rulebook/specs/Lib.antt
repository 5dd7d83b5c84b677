pub mod Rows
pub mod Rights
pub mod Sheets
pub mod Kept
pub mod Listed
pub mod Books
pub mod Views
