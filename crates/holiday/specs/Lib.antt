-- What a holiday is, and what is claimed of it.
pub mod Holiday
pub mod Claims
