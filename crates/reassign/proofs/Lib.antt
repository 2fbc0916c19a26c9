mod Naming
mod Entries
mod Entry
