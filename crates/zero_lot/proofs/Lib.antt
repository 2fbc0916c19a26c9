mod Alike
pub mod Unnamed
