pub mod Merge
pub mod Places
pub mod Answers
pub mod Promises
pub mod Examples
