-- What the contracts of `rulefile` are written in, and what is claimed of rule files.
pub mod Rules
pub mod Files
pub mod Claims
pub mod Examples
pub mod Inner
