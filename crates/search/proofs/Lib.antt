pub mod Promised
pub mod Without
pub mod Ending
pub mod Entry
