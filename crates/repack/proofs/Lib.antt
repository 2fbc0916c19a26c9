pub mod Alike
pub mod Repacked
pub mod Answering
mod Terms
mod Counts
mod Entry
