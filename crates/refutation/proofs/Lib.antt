pub mod Admitted
pub mod Sound
pub mod Withdrawn
pub mod Smaller
pub mod Plain
