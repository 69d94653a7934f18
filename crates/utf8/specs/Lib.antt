-- What the contracts of `utf8` are written in, and the claims.
pub mod Utf8
pub mod Encoded
pub mod Controls
pub mod Characters
pub mod Claims
