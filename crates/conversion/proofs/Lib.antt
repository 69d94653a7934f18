pub mod Places
pub mod Rows
pub mod Passes
pub mod Accepted
pub mod Days
pub mod Ad
pub mod Longer
pub mod Theorems
