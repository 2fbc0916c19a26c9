mod Beside
mod Counting
mod Cases
pub mod Changes
pub mod Numbers
pub mod Itself
