pub mod Weights
pub mod Promises
