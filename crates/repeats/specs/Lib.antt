pub mod Repeats
pub mod Examples
pub mod Inner
