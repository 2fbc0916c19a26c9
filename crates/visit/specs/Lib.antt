pub mod Limits
pub mod Visited
