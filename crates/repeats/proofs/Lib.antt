pub mod Equal
pub mod Left
pub mod Result
mod Fields
mod Comparing
mod Digesting
pub mod Entries
mod Seeking
mod Staying
mod Gathering
mod Entered
