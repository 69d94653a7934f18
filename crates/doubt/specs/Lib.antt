-- What the contracts of `doubt` are written in.
pub mod Range
