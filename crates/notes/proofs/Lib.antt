pub mod Lists
pub mod Nears
