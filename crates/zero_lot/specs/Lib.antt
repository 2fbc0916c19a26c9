pub mod Unnamed
mod Examples
