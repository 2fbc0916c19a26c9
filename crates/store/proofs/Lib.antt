pub mod Codec
pub mod Writes
