mod Scanning
pub mod Settling
mod Resuming
mod Conditions
