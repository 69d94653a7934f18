-- What the contracts of `desk` are written in.
pub mod Keeping
pub mod Runs
