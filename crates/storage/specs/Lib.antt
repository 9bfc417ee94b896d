pub mod Bounds
pub mod Replies
