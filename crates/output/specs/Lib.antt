-- What the contracts of `output` are written in.
pub mod Gathered
pub mod Floats
pub mod Octets
pub mod Pieces
