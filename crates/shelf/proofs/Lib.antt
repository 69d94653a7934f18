pub mod Halves
pub mod Sizes
pub mod Lengths
pub mod Made
