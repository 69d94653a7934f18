-- What the contracts of `faults` are written in.
pub mod Faults
pub mod Words
pub mod Lines
