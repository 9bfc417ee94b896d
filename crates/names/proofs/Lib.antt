pub mod All
pub mod Comparing
pub mod NamesLaying
pub mod OneToOne
pub mod Calling
pub mod Placing
pub mod Settled
pub mod Laws
