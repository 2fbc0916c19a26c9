pub mod Splits
pub mod Within
