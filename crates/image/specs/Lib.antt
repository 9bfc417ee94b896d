pub mod Laid
pub mod Shown
pub mod Records
pub mod Stores
pub mod Reading
