pub mod Forms
pub mod Puts
pub mod Short
pub mod Whole
pub mod Examples
pub mod Written
