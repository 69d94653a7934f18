-- What the contracts of `tables` are written in.
pub mod Breaks
pub mod Words
pub mod Shared
