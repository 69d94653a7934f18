pub mod Splits
pub mod Heads
pub mod Judges
pub mod Checks
pub mod Searches
pub mod Files
pub mod Theorems
pub mod Examples
