pub mod Opening
pub mod Working
pub mod Asking
