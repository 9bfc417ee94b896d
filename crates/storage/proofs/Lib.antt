pub mod Scan
pub mod Replying
