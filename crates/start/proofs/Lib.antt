pub mod Sizes
pub mod Starting
