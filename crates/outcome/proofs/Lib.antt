pub mod Fitting
pub mod Grouping
pub mod Own
pub mod Checked
pub mod Slack
