pub mod Pages
pub mod Corollary
