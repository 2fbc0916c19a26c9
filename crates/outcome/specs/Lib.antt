pub mod Nodes
pub mod Outcome
pub mod Limited
