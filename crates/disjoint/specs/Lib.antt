pub mod Fields
pub mod Shapes
