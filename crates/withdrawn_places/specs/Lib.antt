pub mod Changes
pub mod Numbers
mod Examples
