-- What the contracts of `files` are written in.
pub mod Problems
pub mod File
pub mod Texts
pub mod Told
pub mod Inner
