pub mod Rounds
pub mod Replies
pub mod WaysOut
pub mod Undoing
pub mod Negating
pub mod Answers
pub mod Attrsets
