pub mod Sheets
pub mod ZeroSheets
pub mod Table
pub mod LimitedTable
