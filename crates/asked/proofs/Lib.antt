pub mod Splits
pub mod Patterns
pub mod HeldOctets
pub mod Turns
pub mod Runs
