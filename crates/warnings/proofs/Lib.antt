pub mod Turns
pub mod Told
pub mod Examples
