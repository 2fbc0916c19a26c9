pub mod Counting
pub mod Summing
pub mod Weighing
pub mod Checking
pub mod Moving
