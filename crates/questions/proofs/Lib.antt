-- The laws of `questions`.
pub mod Keys
pub mod Fronts
