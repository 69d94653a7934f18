pub mod Drawing
pub mod Parts
pub mod Rows
pub mod Months
pub mod Unique
