-- What the contracts of `doubtful` are written in.
pub mod Tallies
pub mod Years
pub mod Inner
