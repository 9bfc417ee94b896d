pub mod Started
pub mod Meets
