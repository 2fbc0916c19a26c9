pub mod Format
pub mod Verdicts
pub mod Refusals
pub mod Checks
pub mod Conditions
pub mod Answers
pub mod Inner
pub mod Chains
