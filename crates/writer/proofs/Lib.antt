mod Stores
pub mod Rooms
pub mod Whole
mod Adding
pub mod Packing
