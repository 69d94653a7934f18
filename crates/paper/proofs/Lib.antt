pub mod Tests
pub mod Answers
pub mod Days
pub mod Sums
pub mod Stores
pub mod Floats
pub mod Within
pub mod Between
