pub mod Repack
pub mod Promises
pub mod Examples
