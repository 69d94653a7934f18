-- What the contracts of `questions` are written in.
pub mod Holidays
pub mod Lists
pub mod Months
pub mod Texts
pub mod Questions
