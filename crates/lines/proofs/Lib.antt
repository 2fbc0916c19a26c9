pub mod Digits
pub mod Appending
mod Fields
