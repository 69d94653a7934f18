pub mod Going
pub mod Parts
pub mod Places
pub mod Counts
pub mod Aligned
