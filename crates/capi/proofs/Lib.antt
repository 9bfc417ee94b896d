pub mod OneToOne
pub mod Telling
pub mod Settled
pub mod Contracts
