pub mod Limits
pub mod Chains
pub mod Places
pub mod Canonical
