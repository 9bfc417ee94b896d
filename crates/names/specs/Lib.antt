pub mod Names
pub mod Answers
pub mod NamesLaid
