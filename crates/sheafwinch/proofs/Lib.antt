pub mod Settled
pub mod Contracts
