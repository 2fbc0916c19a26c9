pub mod Meaning
pub mod Node
pub mod Search
pub mod Visits
pub mod Opens
pub mod Evaluator
pub mod Examples
