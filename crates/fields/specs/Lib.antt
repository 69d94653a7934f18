-- What the contracts of `fields` are written in.
pub mod Line
