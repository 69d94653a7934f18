pub mod Boundary
pub mod Lent
pub mod Keeping
pub mod Claims
