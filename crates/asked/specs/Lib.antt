-- What the contracts of `asked` are written in.
pub mod Line
pub mod Octets
pub mod Turns
pub mod Runs
pub mod Tags
