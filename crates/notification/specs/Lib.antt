pub mod Limits
pub mod Notifications
pub mod Notices
pub mod Parts
pub mod Laws
