-- What the contracts of `gate` are written in.
pub mod Reasons
pub mod Inner
pub mod Lines
pub mod Claims
