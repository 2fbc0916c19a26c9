pub mod Answers
pub mod Promises
pub mod Limited
pub mod Ends
