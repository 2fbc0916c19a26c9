pub mod Lists
pub mod Bytes
pub mod Sets
pub mod Writing
pub mod Lending
