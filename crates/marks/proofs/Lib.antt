mod Bits
pub mod Bytes
pub mod Marks
