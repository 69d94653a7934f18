pub mod Gathering
pub mod Joins
pub mod Numbers
pub mod Pieces
