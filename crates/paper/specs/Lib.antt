-- What more than one crate's definitions are written in.
pub mod Refusals
pub mod Answers
pub mod Sums
pub mod Floats
