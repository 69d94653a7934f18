-- What the contracts of `patro` are written in.
pub mod Pages
pub mod Years
pub mod Inner
