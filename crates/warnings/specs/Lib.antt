-- What the contracts of `warnings` are written in.
pub mod Warnings
pub mod Words
pub mod Examples
