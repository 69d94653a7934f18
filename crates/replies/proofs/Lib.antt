-- The laws of `replies`.
pub mod Octets
