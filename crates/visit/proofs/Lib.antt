pub mod Exploring
pub mod Limits
pub mod Standing
pub mod Splitting
pub mod Branching
pub mod Looking
pub mod Room
