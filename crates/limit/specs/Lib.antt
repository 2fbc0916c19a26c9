pub mod Meaning
pub mod Rule
pub mod Search
pub mod Scan
pub mod Examples
