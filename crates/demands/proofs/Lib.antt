pub mod Events
pub mod Started
pub mod Visited
pub mod Numbered
pub mod Demand1
pub mod Demand3
pub mod Demand2
pub mod Example
