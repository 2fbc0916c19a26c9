pub mod Count
pub mod Reassign
pub mod Moves
pub mod Examples
