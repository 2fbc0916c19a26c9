pub mod Merged
pub mod Places
pub mod Answering
mod Counts
pub mod Entry
