pub mod Listed
pub mod OneToOne
pub mod Settled
pub mod Oracle
pub mod Worked
