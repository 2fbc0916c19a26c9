mod Numbered
pub mod Promised
