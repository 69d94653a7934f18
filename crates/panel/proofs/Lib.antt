pub mod Handing
pub mod Crossing
pub mod Once
pub mod Longer
pub mod Arrays
pub mod Holding
pub mod Grown
pub mod Sequences
