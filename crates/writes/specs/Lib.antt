pub mod Placing
pub mod Packed
pub mod Slots
pub mod Grown
