pub mod Answers
pub mod Kinds
