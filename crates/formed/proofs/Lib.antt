pub mod Tested
pub mod Walked
pub mod Owned
pub mod Whole
pub mod Lying
