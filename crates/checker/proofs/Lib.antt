pub mod Walking
pub mod Entry
