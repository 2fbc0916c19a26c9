mod Zeroed
mod Walking
mod Chains
pub mod Withdraw
pub mod Meaning
