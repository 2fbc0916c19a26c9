pub mod Lots
mod FirstTrue
mod Scanning
mod Entry
