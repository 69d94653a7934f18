-- What the proofs of `answers` share.
pub mod Rows
pub mod Lent
