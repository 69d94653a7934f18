-- What the pages of `wall` are: text for numbers.
pub mod Words
pub mod Places
pub mod Names
pub mod Columns
pub mod Cells
pub mod Lists
pub mod Pages
