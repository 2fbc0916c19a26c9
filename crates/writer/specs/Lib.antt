pub mod Answers
pub mod Drafts
