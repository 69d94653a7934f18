pub mod Bytes
pub mod Turns
pub mod Encodes
pub mod Cuts
pub mod Theorems
pub mod Examples
