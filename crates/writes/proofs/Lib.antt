pub mod Places
pub mod Growing
pub mod Runs
pub mod Pending
