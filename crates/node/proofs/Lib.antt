mod Opening
mod Splitting
mod Resuming
mod Pairing
pub mod Leaving
