pub mod Withdraw
pub mod Others
mod Examples
