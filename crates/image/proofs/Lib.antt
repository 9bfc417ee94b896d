pub mod Reach
pub mod ReadOut
pub mod Laying
pub mod Searching
pub mod Lent
pub mod Listed
