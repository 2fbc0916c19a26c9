pub mod Rows
pub mod Leveling
