-- What the contracts of `clerk` are written in.
pub mod Counts
