pub mod Operators
pub mod Numbers
