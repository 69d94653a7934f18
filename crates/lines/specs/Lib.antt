-- What the contracts of `lines` are written in.
pub mod Lines
