-- What the contracts of `naming` are written in, and the claims.
pub mod Names
pub mod Inner
pub mod Claims
