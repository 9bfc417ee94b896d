pub mod Fields
pub mod Views
pub mod Finding
pub mod Rounds
pub mod Searches
pub mod Shapes
