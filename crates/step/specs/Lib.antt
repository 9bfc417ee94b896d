pub mod Taken
pub mod Made
pub mod Put
