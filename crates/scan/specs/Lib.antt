pub mod Settled
pub mod Place
