pub mod Maps
pub mod Path
pub mod Exclusive
mod Marks
pub mod Joins
